use Rattle.std.proofs.Common.{◌≡◌, sym, ap, ◌∙◌, codes, option_map, rules, arith}
use lib.Utf8.{encode}
use Rattle.std.proofs.lemmas.Slice.Eq.{text_from_reads}
use Rattle.text.specs.Scalars.{utf8}
use Rattle.value.specs.declared.kind.Kind.TheVariants as kind
use Rattle.value.specs.declared.value.Value.TheVariants as value
use Rattle.format.proofs.Valued.{none_of, reads_value, encode_bytes, span_short, char_value, str_value, excl_value, incl_value}
use Rattle.format.proofs.values.read_value.Goals as goal

pub returns-in-false-clause-exact : goal.returns-in-false-clause-exact
returns-in-false-clause-exact c = record { reads = ((sym c.in-Bool.is, tt), sym (text_from_reads c.args.bytes.now (codes "false") (omega arith) (search rules))); lies = tt }

pub returns-in_err-span-in-Char-clause-exact : goal.returns-in_err-span-in-Char-clause-exact
returns-in_err-span-in-Char-clause-exact c = rw c.from_residual.ensures (record {
  reads = none_of _ _ kind.Char _ c.in-Char.is (λ d f e. c.in_err-span-in-Char.ensures (encode d) (encode_bytes d f.0) f.1 e);
  lies = tt;
})

pub returns-in_ok-span-in-Char-clause-exact : goal.returns-in_ok-span-in-Char-clause-exact
returns-in_ok-span-in-Char-clause-exact c =
    let t = c.in_ok-span-in-Char.ensures in
    let e : c.map-in-Char.result ≡ option_map (λ x. value.Char x) c.read_char.result = search rules in
    rw e (char_value c.args.kind c.args.bytes.now c.read_text.new.buffer _ c.read_char.result c.in-Char.is (t.0, t.2, span_short c.read_text.new.buffer c.in_ok-span-in-Char.span) (rw (← c.part.ensures) c.read_char.ensures.exact))

pub returns-in_ok-span-in-Str-clause-exact : goal.returns-in_ok-span-in-Str-clause-exact
returns-in_ok-span-in-Str-clause-exact c =
    rw c.then_some-in-Str.ensures (str_value c.args.kind c.args.bytes.now c.read_text-in-Str.new.buffer c.in_ok-span-in-Str.span c.is_utf8.result c.in-Str.is c.in_ok-span-in-Str.ensures (c.is_utf8.ensures ∙ ap utf8 c.part-in-Str.ensures))

pub returns-in-Excl-clause-exact : goal.returns-in-Excl-clause-exact
returns-in-Excl-clause-exact c =
    let e : c.map-in-Excl.result ≡ option_map (λ x. value.Excl x) c.read_range.result = search rules in
    rw e (excl_value c.args.kind c.args.bytes.now c.args.buffer.now c.read_range.result c.in-Excl.is c.read_range.ensures.exact)

pub returns-in-Incl-clause-exact : goal.returns-in-Incl-clause-exact
returns-in-Incl-clause-exact c =
    let e : c.map-in-Incl.result ≡ option_map (λ x. value.Incl x) c.read_range-in-Incl.result = search rules in
    rw e (incl_value c.args.kind c.args.bytes.now c.args.buffer.now c.read_range-in-Incl.result c.in-Incl.is c.read_range-in-Incl.ensures.exact)

pub returns-in-false-clause-reads : goal.returns-in-false-clause-reads
returns-in-false-clause-reads c = reads_value (returns-in-false-clause-exact c)

pub returns-in_err-span-in-Char-clause-reads : goal.returns-in_err-span-in-Char-clause-reads
returns-in_err-span-in-Char-clause-reads c = reads_value (returns-in_err-span-in-Char-clause-exact c)

pub returns-in_ok-span-in-Char-clause-reads : goal.returns-in_ok-span-in-Char-clause-reads
returns-in_ok-span-in-Char-clause-reads c = reads_value (returns-in_ok-span-in-Char-clause-exact c)

pub returns-in_ok-span-in-Str-clause-reads : goal.returns-in_ok-span-in-Str-clause-reads
returns-in_ok-span-in-Str-clause-reads c = reads_value (returns-in_ok-span-in-Str-clause-exact c)

pub returns-in-Excl-clause-reads : goal.returns-in-Excl-clause-reads
returns-in-Excl-clause-reads c = reads_value (returns-in-Excl-clause-exact c)

pub returns-in-Incl-clause-reads : goal.returns-in-Incl-clause-reads
returns-in-Incl-clause-reads c = reads_value (returns-in-Incl-clause-exact c)

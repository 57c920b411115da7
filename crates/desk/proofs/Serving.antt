-- One call on a desk that answers as the book does is lawful after every list of calls; and telling a slot gives its value.
use Rattle.std.proofs.Common.{◌≡◌, ℕ, ◌+◌, ◌≤◌, Bool, true, false, cond, List, length, Some, None, Ok, Err, Option, Result, sym, refl, ap, ◌∙◌, subst, arith}
use Rattle.std.specs.Option.{option_map}
use Rattle.std.specs.List.{slice_get}
use Rattle.std.proofs.lemmas.Bool.{leb-true}
use Rattle.fault.specs.Outcomes.{Outcome, beside}
use Rattle.fault.specs.Refusals.{refusal}
use Rattle.fault.specs.declared.Fault.{Fault}
use Rattle.fault.specs.declared.Fault.TheVariants.{BufferShort}
use Rattle.fault.specs.declared.Refusal.{Refusal}
use Rattle.text.specs.Buffers.{span, span_text, has_room, laid}
use Rattle.text.specs.declared.span.Span.{Span}
use Rattle.text.proofs.Laws.{length_laid, span_new}
use Rattle.value.specs.Values.{Meaning, unit, bool, int, float, char, str, blob, excl, incl, meant, text_of, text_in, well_formed, held_at, fits, written, Told, told_at, Inside}
use Rattle.value.specs.declared.value.Value.{Value}
use Rattle.shelf.specs.Slots.{Slot, all_formed, holding}
use Rattle.shelf.specs.Calls.{told, tell_at}
use Rattle.rule.specs.declared.rule.Rule.{Rule}
use Rattle.rule.proofs.Loads.{formed_at}
use Rattle.desk.specs.Book.{Event, post, tell, count, kind, capacity, mark, clear, add, check, run, feed, book, Said, value, tells, answered}
use Rattle.desk.specs.Law.{RunOf, SaidFormed}
use Rattle.desk.specs.Desks.{desk_of, meant_by, WorkFormed, Served}
use Rattle.desk.specs.declared.call.Reply.{Reply}
use Rattle.desk.specs.declared.call.Reply.TheVariants as reply
use Rattle.desk.proofs.Postings.{book_more}
use Rattle.desk.proofs.Runs.{run_law}
use Rattle.desk.proofs.Uniting.{ok_err}

run_of : (first : List Slot) (past : List Event) (c : Event) (work : List ℕ) (said : Result Said Refusal) (work' : List ℕ) → answered (book first past) c work ≡ beside work' said → RunOf first past c work said work'
run_of first past (post s m) work said work' e = tt
run_of first past (tell s p) work said work' e = tt
run_of first past count work said work' e = tt
run_of first past (kind s) work said work' e = tt
run_of first past (capacity s) work said work' e = tt
run_of first past (mark s) work said work' e = tt
run_of first past clear work said work' e = tt
run_of first past (add x) work said work' e = tt
run_of first past check work said work' e = tt
run_of first past (run l) work said work' e = run_law first past l work said work' (sym e)

said_formed : (work : List ℕ) (r : Result Reply Refusal) → WorkFormed work r → SaidFormed (meant_by work r)
said_formed work (Ok reply.Done) h m q = absurd (let z : ◌≡◌ {A = ℕ} 0 1 = cc in omega arith)
said_formed work (Ok (reply.Value v)) h m q = let p : meant work v ≡ m = cc in ap well_formed (sym p) ∙ h v refl
said_formed work (Ok (reply.Number n)) h m q = absurd (let z : ◌≡◌ {A = ℕ} 0 1 = cc in omega arith)
said_formed work (Ok (reply.Kind k)) h m q = absurd (let z : ◌≡◌ {A = ℕ} 0 1 = cc in omega arith)
said_formed work (Ok (reply.Mark k)) h m q = absurd (let z : ◌≡◌ {A = ℕ} 0 1 = cc in omega arith)
said_formed work (Ok (reply.Kinds s)) h m q = absurd (let z : ◌≡◌ {A = ℕ} 0 1 = cc in omega arith)
said_formed work (Err e) h m q = absurd (ok_err (value m) e q)

pub serves : (slots : List Slot) (rule : Rule) (c : Event) (work : List ℕ) (r : Result Reply Refusal) (work' : List ℕ) (slots' : List Slot) (rule' : Rule) → answered (desk_of slots rule) c work ≡ beside work' (meant_by work' r) → desk_of slots' rule' ≡ feed (desk_of slots rule) c → WorkFormed work' r → Served slots rule c work r work' slots' rule'
serves slots rule c work r work' slots' rule' a f h first past is =
    let e = ap (λ b. answered b c work) (sym is) ∙ a in
    (f ∙ ap (λ b. feed b c) is ∙ sym (book_more first past c), record { answer = e; run = run_of first past c work (meant_by work' r) work' e; formed = said_formed work' r h })

-- ---- telling

module _ (work : List ℕ) (place : ℕ) where
  text_means : (bs : List ℕ) → has_room work place bs ≡ true → (span_text (laid work place bs) (span place (length bs)) ≡ bs) × (place + length bs ≤ length (laid work place bs))
  text_means bs f =
      let le = leb-true (place + length bs) (length work) f in
      (span_new work bs place (omega arith), omega (arith, length_laid work bs place le))

  -- a value that was put into the buffer means what it did, and its text lies there
  held_means : (m : Meaning) → fits work place (text_of m) ≡ true → (meant (written work place (text_of m)) (held_at place m) ≡ m) × Inside (length (written work place (text_of m))) (text_in (held_at place m))
  held_means unit f = (refl, tt)
  held_means (bool b) f = (refl, tt)
  held_means (int n) f = (refl, tt)
  held_means (float x) f = (refl, tt)
  held_means (char c) f = (refl, tt)
  held_means (str bs) f = let p = text_means bs f in (ap str p.0, p.1)
  held_means (blob bs) f = let p = text_means bs f in (ap blob p.0, p.1)
  held_means (excl x y) f = (refl, tt)
  held_means (incl x y) f = (refl, tt)

  -- what a telling gives: the value, with its text in the buffer, and well formed as it is in the slot
  pub record Tells (o : Outcome (List ℕ) Said Refusal) (v : Value Span) (work' : List ℕ) : Type 0 where
    pub outcome : o ≡ Ok (value (meant work' v), work')
    pub inside : Inside (length work') (text_in v)
    pub formed : well_formed (meant work' v) ≡ true

  told_by : (m : Meaning) (b : Bool) → well_formed m ≡ true → fits work place (text_of m) ≡ b → (v : Value Span) → (told_at work place m).answer ≡ Ok v → Tells (tells (Some m) place work) v (told_at work place m).bytes
  told_by m true k f v q =
      let t : told_at work place m ≡ record { answer = Ok (held_at place m); bytes = written work place (text_of m) } = ap (λ b. cond b (record { answer = Ok (held_at place m); bytes = written work place (text_of m) }) (record { answer = Err BufferShort; bytes = work })) f in
      let o : tells (Some m) place work ≡ Ok (value m, written work place (text_of m)) = ap (λ b. cond b (Ok (value m, written work place (text_of m))) (Err (refusal BufferShort 0, work))) f in
      let is : held_at place m ≡ v = let z : ◌≡◌ {A = Result (Value Span) Fault} (Ok (held_at place m)) (Ok v) = sym (ap (λ (x : Told). x.answer) t) ∙ q in cc in
      let bytes = ap (λ (x : Told). x.bytes) t in
      let h = held_means m f in
      subst (Tells (tells (Some m) place work) v) (sym bytes)
      (subst (λ u. Tells (tells (Some m) place work) u (written work place (text_of m))) is
      (record { outcome = o ∙ ap (λ n. Ok (value n, written work place (text_of m))) (sym h.0); inside = h.1; formed = ap well_formed h.0 ∙ k }))
  told_by m false k f v q =
      let t : told_at work place m ≡ record { answer = Err BufferShort; bytes = work } = ap (λ b. cond b (record { answer = Ok (held_at place m); bytes = written work place (text_of m) }) (record { answer = Err BufferShort; bytes = work })) f in
      absurd (let z : ◌≡◌ {A = Result (Value Span) Fault} (Err BufferShort) (Ok v) = sym (ap (λ (x : Told). x.answer) t) ∙ q in let y : ◌≡◌ {A = ℕ} 0 1 = cc in omega arith)

  told_at_lem : (o : Option Slot) → ((s : Slot) → o ≡ Some s → well_formed s.holds ≡ true) → (v : Value Span) → (tell_at work place o).answer ≡ Ok v → Tells (tells (option_map (λ s. s.holds) o) place work) v (tell_at work place o).bytes
  told_at_lem None k v q = absurd (let z : ◌≡◌ {A = ℕ} 0 1 = cc in omega arith)
  told_at_lem (Some s) k v q = told_by s.holds (fits work place (text_of s.holds)) (k s refl) refl v q

  pub told_tells : (slots : List Slot) → all_formed slots ≡ true → (i : ℕ) (v : Value Span) (work' : List ℕ) → (told slots i work place).answer ≡ Ok v → work' ≡ (told slots i work place).bytes → Tells (tells (holding slots i) place work) v work'
  told_tells slots formed i v work' q b = subst (Tells (tells (holding slots i) place work) v) (sym b) (told_at_lem (slice_get slots i) (λ s e. formed_at slots i s formed e) v q)

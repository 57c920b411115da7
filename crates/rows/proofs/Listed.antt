-- One test, computed over every operator and every two kinds, and what it says at each.
use Rattle.std.proofs.Common.{◌≡◌, Bool, true, false, ◌&&◌, eqb, Some, None, Option, refl, ap}
use Rattle.std.specs.Bool.{beq}
use Rattle.std.specs.Option.{ok_or, option_map}
use Rattle.std.proofs.lemmas.Bool.{and_parts, eqb-true, false≢true}
use Rattle.fault.specs.declared.Fault.TheVariants.{NoRow}
use Rattle.value.specs.Kinds.{kinds}
use Rattle.value.specs.Ops.{ops}
use Rattle.value.specs.declared.kind.Kind.{Kind}
use Rattle.value.specs.declared.set.KindSet.{KindSet}
use Rattle.value.specs.declared.op.Op.{Op}
use Rattle.value.proofs.Laws.{every, every_kind, every_op}
use Rattle.rows.specs.Routines.{results, assign_results, Answer, varies, says, gives_left, gives_right}
use Rattle.rows.specs.Rows.{row_of, assign_row_of}
use Rattle.rows.specs.Table.{found, told, in_row, binary_groups, assign_groups, RowsAsListed}

alike : Option KindSet → Option KindSet → Bool
alike None None = true
alike None (Some t) = false
alike (Some s) None = false
alike (Some s) (Some t) = eqb s.bits t.bits

alike_is : (o p : Option KindSet) → alike o p ≡ true → o ≡ p
unfolding alike
alike_is None None h = refl
alike_is None (Some t) h = absurd (false≢true h)
alike_is (Some s) None h = absurd (false≢true h)
alike_is (Some s) (Some t) h = ap (λ n. Some (record { bits = n })) (eqb-true s.bits t.bits h)

one_answer : Answer → Answer → Bool
one_answer varies varies = true
one_answer varies (says u) = false
one_answer varies gives_left = false
one_answer varies gives_right = false
one_answer (says t) varies = false
one_answer (says t) (says u) = beq t u
one_answer (says t) gives_left = false
one_answer (says t) gives_right = false
one_answer gives_left varies = false
one_answer gives_left (says u) = false
one_answer gives_left gives_left = true
one_answer gives_left gives_right = false
one_answer gives_right varies = false
one_answer gives_right (says u) = false
one_answer gives_right gives_left = false
one_answer gives_right gives_right = true

one_truth : (t u : Bool) → beq t u ≡ true → t ≡ u
one_truth true true h = refl
one_truth true false h = absurd (false≢true h)
one_truth false true h = absurd (false≢true h)
one_truth false false h = refl

answer_is : (p q : Answer) → one_answer p q ≡ true → p ≡ q
unfolding one_answer
answer_is varies varies h = refl
answer_is varies (says u) h = absurd (false≢true h)
answer_is varies gives_left h = absurd (false≢true h)
answer_is varies gives_right h = absurd (false≢true h)
answer_is (says t) varies h = absurd (false≢true h)
answer_is (says t) (says u) h = ap says (one_truth t u h)
answer_is (says t) gives_left h = absurd (false≢true h)
answer_is (says t) gives_right h = absurd (false≢true h)
answer_is gives_left varies h = absurd (false≢true h)
answer_is gives_left (says u) h = absurd (false≢true h)
answer_is gives_left gives_left h = refl
answer_is gives_left gives_right h = absurd (false≢true h)
answer_is gives_right varies h = absurd (false≢true h)
answer_is gives_right (says u) h = absurd (false≢true h)
answer_is gives_right gives_left h = absurd (false≢true h)
answer_is gives_right gives_right h = refl

listed : Op → Kind → Kind → Bool
listed op a b = alike (option_map results (row_of op a b)) (found binary_groups op a b) && (alike (option_map assign_results (assign_row_of op a b)) (found assign_groups op a b) && one_answer (in_row (row_of op a b)) (told binary_groups op a b))

all_listed : every (λ op. every (λ a. every (λ b. listed op a b) kinds) kinds) ops ≡ true
unfolding listed alike one_answer
all_listed = refl

pub rows_as_listed : RowsAsListed
unfolding listed
rows_as_listed op a b =
    let h = every_kind (λ b. listed op a b) (every_kind (λ a. every (λ b. listed op a b) kinds) (every_op (λ op. every (λ a. every (λ b. listed op a b) kinds) kinds) all_listed op) a) b in
    let p = and_parts _ _ h in
    let q = and_parts _ _ p.1 in
    (ap (λ o. ok_or o NoRow) (alike_is _ _ p.0), ap (λ o. ok_or o NoRow) (alike_is _ _ q.0), answer_is _ _ q.1)

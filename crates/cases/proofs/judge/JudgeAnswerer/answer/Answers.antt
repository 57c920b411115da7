use Rattle.std.proofs.Common.{[], ◌∷◌, ◌++◌, Ok, Err, refl, subst}
use Rattle.fault.specs.declared.Fault.TheVariants.{BadLine}
use Rattle.value.specs.Values.{meaning}
use Rattle.cases.specs.Judged.{JudgedLine, shown_case}
use Rattle.cases.proofs.judge.JudgeAnswerer.answer.Goals as goal

pub returns-in_default : goal.returns-in_default
returns-in_default g c =
    let said = c.refuse.ensures in
    (said.0, (Err BadLine, subst (λ o. JudgedLine o (Err BadLine)) c.in_default.ensures refl, said.1), said.2)

pub returns-in-Ok : goal.returns-in-Ok
returns-in-Ok g c =
    let r = Ok (meaning (λ x. x.now) c.in-Ok.value.0) in
    (shown_case r ++ 10 ∷ [], (r, subst (λ o. JudgedLine o r) c.in-Some.ensures c.in-Ok.ensures, refl), c.writeln.ensures.bytes)

pub returns-in-Err : goal.returns-in-Err
returns-in-Err g c =
    let r = Err c.in-Err.fault in
    (shown_case r ++ 10 ∷ [], (r, subst (λ o. JudgedLine o r) c.in-Some.ensures c.in-Err.ensures, refl), c.write_refusal.ensures)

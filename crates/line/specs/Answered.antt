-- What is printed of what a desk says: a value, a refusal, and `ok` for all else. Assumes nothing.
use Rattle.std.specs.Prelude.{ℕ, List, Ok, Err, codes, Result}
use Rattle.fault.specs.declared.Refusal.{Refusal}
use Rattle.desk.specs.Book.{Said, done, value, number, of_kind, marked, kinds}
use Rattle.show.specs.Shown.{shown_value, shown_refusal}

abbrev pub shown_said : Result Said Refusal → List ℕ
shown_said (Ok done) = codes "ok"
shown_said (Ok (value m)) = shown_value m
shown_said (Ok (number n)) = codes "ok"
shown_said (Ok (of_kind k)) = codes "ok"
shown_said (Ok (marked m)) = codes "ok"
shown_said (Ok (kinds s)) = codes "ok"
shown_said (Err e) = shown_refusal e

-- On which side of the seam a joined shelf has a slot. Assumes nothing.
use Rattle.std.specs.Prelude.{ℕ, ◌-◌, cond, Ok, Err, Result, nat_lt}
use Rattle.fault.specs.declared.Fault.{Fault}
use Rattle.fault.specs.declared.Fault.TheVariants.{Absent}
use Rattle.layers.specs.declared.joined.Side.{Side}
use Rattle.layers.specs.declared.joined.Side.TheVariants.{First, Second}

-- where the first shelf has n slots: slot i is the first's, or the second's under what is left of its number; 65,536 and more are absent
abbrev pub side_of : ℕ → ℕ → Result Side Fault
side_of n i = cond (nat_lt i 65536) (Ok (cond (nat_lt i n) (First i) (Second (i - n)))) (Err Absent)

-- The work buffer across a call. Assumes nothing.
use Rattle.std.specs.Prelude.{◌≡◌}
use Rattle.routines.specs.declared.work.Work.{Work}

-- the limits stay, and the bytes are those of the same buffer
pub record Kept (old new : Work) : Type 0 where
  pub limits : new.limits ≡ old.limits
  pub same : new.bytes.ghost_name ≡ old.bytes.ghost_name

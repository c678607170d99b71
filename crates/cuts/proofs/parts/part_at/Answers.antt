-- `cuts::parts::part_at` meets its contract: the part's end is in the bytes, and not before its start. Assumes nothing.
use Rattle.cuts.proofs.Parted.{part_cut}
use Rattle.cuts.proofs.parts.part_at.Goals as goal

pub returns : goal.returns
returns c = part_cut _ _ _ _ c.stop_at-end.ensures

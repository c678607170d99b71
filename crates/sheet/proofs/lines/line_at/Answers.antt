-- `sheet::lines::line_at` meets its contract: the part up to the line feed. Assumes nothing.
use Rattle.sheet.specs.Bytes.{FEED}
use Rattle.sheet.proofs.Parted.{part_cut}
use Rattle.sheet.proofs.lines.line_at.Goals as goal

pub returns : goal.returns
returns c = part_cut FEED _ _ _ c.stop_from-end.ensures

-- `joining::enrol::put_next` meets its contract: the root and its level are those of the tree that the table holds. Assumes nothing.
use Rattle.joining.proofs.Raising.{grow_root, grow_insert, grow_raise, grow_new}
use Rattle.joining.proofs.enrol.put_next.Goals as goal

pub level_at-level-requires : goal.level_at-level-requires
level_at-level-requires c = grow_root c.requires c.root_of-slot.ensures

pub insert-new-requires : goal.insert-new-requires
insert-new-requires c = grow_insert c.requires c.root_of-slot.ensures c.level_at-level.ensures

pub raise-requires : goal.raise-requires
raise-requires c =
    let i = c.insert-new in (
      grow_raise c.requires c.root_of-slot.ensures c.level_at-level.ensures i.new.table i.result i.ensures,
      grow_new c.requires c.root_of-slot.ensures c.level_at-level.ensures i.new.table i.result i.ensures,
    )

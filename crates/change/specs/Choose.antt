-- 01, "Way down": the entry whose area grows least; on a tie the smaller area, then the lower place.
use Rattle.std.specs.Prelude.{ℕ, zero, suc, ◌-◌, Bool, cond, ◌&&◌, ◌||◌, List, eqb, ltb, length, get_or}
use Rattle.grid.specs.declared.rect.Rect.{Rect}
use Rattle.grid.specs.Place.{area_of, growth_of}
use Rattle.table.specs.declared.node.Entry.{Entry}
use Rattle.table.specs.Page.{blank_entry}

-- growth g and area a are chosen before growth h and area b
abbrev pub better : ℕ → ℕ → ℕ → ℕ → Bool
better g a h b = ltb g h || (eqb g h && ltb a b)

-- rectangle r takes the newcomer before rectangle s; the area is the rectangle's own, before it grows
unfoldable pub takes_before : Rect → Rect → Rect → Bool
takes_before new r s = better (growth_of r new) (area_of r) (growth_of s new) (area_of s)

abbrev pub entry_in : List Entry → ℕ → Entry
entry_in es i = get_or es i blank_entry

-- of places 0 to n: the last if it takes the newcomer before the choice among those below, else that choice
abbrev pub chosen_up_to : Rect → List Entry → ℕ → ℕ
chosen_up_to new es zero = 0
chosen_up_to new es (suc n) =
    cond (takes_before new (entry_in es (suc n)).rect (entry_in es (chosen_up_to new es n)).rect) (suc n) (chosen_up_to new es n)

-- the place of the entry that takes the newcomer
unfoldable pub chosen : Rect → List Entry → ℕ
chosen new es = chosen_up_to new es (length es - 1)

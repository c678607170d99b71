-- The output line of a granted query or card: the head, the counts, and the list with its line feed, laid one behind the other. Assumes nothing.
use Prim.Native.Nat.{ℕ, ◌+◌, ◌*◌, ◌≤◌}
use mathlib.Core.List.{List, [], ◌∷◌, ◌++◌, map, append_assoc}
use native.Mathlib.Omega.{arith}
use lib.ListN.{length, length-append}
use Rattle.sheet.specs.Bytes.{Bytes, FEED}
use Rattle.slip.specs.Output.{decimal, tabbed, head_of, output_line, Laid}
use Rattle.slip.proofs.Laid.{laid_then}
use Rattle.slip.proofs.Decimal.{head_room, tabbed_most, tabbed_apart}

pub granted_laid : (out : Bytes) (at number letter : ℕ) (counts all : List ℕ) {a b left : Bytes} {x y next : ℕ}
    → at + (44 + 21 * (length counts + length all)) ≤ length out
    → Laid out at (head_of number letter 0) a x → Laid a x (tabbed (map decimal counts)) b y
    → Laid b y (tabbed (map decimal all) ++ FEED ∷ []) left next
    → Laid out at (output_line number letter 0 (counts ++ all)) left next
unfolding output_line
granted_laid out at number letter counts all {a} {b} {left} {x} {y} {next} room h k l =
    let head = head_of number letter 0 in
    let some = tabbed (map decimal counts) in
    let list = tabbed (map decimal all) ++ FEED ∷ [] in
    let short : length head ≤ 43 = head_room number letter 0 in
    let few : length some ≤ 21 * length counts = tabbed_most counts in
    let rest : length list ≤ 1 + 21 * length all = rw length-append (omega (arith, tabbed_most all)) in
    rw (tabbed_apart counts all (FEED ∷ []))
    (rw append_assoc at
    (laid_then out at (head ++ some) b y list left next (rw length-append (omega arith)) (laid_then out at head a x some b y (omega arith) h k) l))

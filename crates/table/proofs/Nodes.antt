-- Laws of a node by value and of its page: equal by their fields, how long, which entries a page has, and a run of entries copied into a node's. Assumes nothing.
use Prim.Native.Nat.{ℕ, zero, suc, ◌+◌, ◌-◌, ◌≤◌, ◌<◌}
use mathlib.Core.Path.{◌≡◌, refl, sym, ap, subst, ◌∙◌}
use mathlib.Core.List.{List, [], ◌∷◌, ◌++◌, append_assoc}
use native.Mathlib.Omega.{arith}
use denote.Laws.{Is}
use denote.Struct.Laws.{val}
use lib.ListN.{length, take, drop, set, get_or, length-take, length-append}
use lib.Seq.{paste, paste-suc, length-paste, take-paste, length-take-le, take-nil, take-append_seam, get_or-take}
use Rattle.table.specs.declared.node.Entry.{Entry}
use Rattle.table.specs.declared.node.Node.{Node}
use Rattle.table.specs.Page.{Page, page, held, shown, Shows, blank_entry}
use Rattle.table.specs.contracts.node.Node.{the_type, the_row}
use Rattle.table.proofs.node.Node.TheLaws.{the_laws}

-- ---- equal by their fields

pub entry_ext : {e f : Entry} → e.reference ≡ f.reference → e.rect ≡ f.rect → e ≡ f
entry_ext p q = λ i. record { reference = p i; rect = q i }

pub page_ext : {p q : Page} → p.level ≡ q.level → p.entries ≡ q.entries → p ≡ q
page_ext e f = λ i. record { level = e i; entries = f i }

-- ---- how long

-- what a proof knows of a node: of a parameter by `.good`, of a call's result by `.ok`
abbrev pub Owned : Node → Type 0
Owned n = Is the_row n (val the_type the_laws n ∷ [])

-- an array's length is in its type
pub full : (n : Node) → Owned n → length n.entries ≡ 10
full n g = g.1.1.1.1.0.1.0.1

pub held_length : (n : Node) → length n.entries ≡ 10 → length (held n) ≡ n.count
held_length n f = length-take-le n.count n.entries (omega (arith, n.room))

-- never more than the number says
pub held_few : (n : Node) → length (held n) ≤ n.count
held_few n = omega (arith, length-take n.count n.entries)

-- ---- the page that a node shows

-- the number is that of the entries
pub shows : (n : Node) (p : Page) → length n.entries ≡ 10 → n.level ≡ p.level → held n ≡ p.entries → Shows n p
shows n p f l e = record { level = l; count = sym (held_length n f) ∙ ap length e; entries = e }

-- each node shows its own page
pub shows_self : (n : Node) → length n.entries ≡ 10 → Shows n (shown n)
shows_self n f = shows n (shown n) f refl refl

-- the entries held are two runs, and what stands behind them does not count
pub runs_show : (n : Node) (p : Page) (a b z : List Entry) → n.entries ≡ a ++ (b ++ z) → n.count ≡ length a + length b
    → n.level ≡ p.level → a ++ b ≡ p.entries → Shows n p
runs_show n p a b z made many l e =
    record {
      level = l;
      count = many ∙ sym (length-append a b) ∙ ap length e;
      entries =
          ap (take n.count) (made ∙ sym (append_assoc a b z))
          ∙ ap (λ k. take k ((a ++ b) ++ z)) (many ∙ sym (length-append a b))
          ∙ take-append_seam (a ++ b) z
          ∙ e;
    }

module _ {n : Node} {p : Page} (s : Shows n p) where
  pub shown_page : shown n ≡ p
  shown_page = page_ext s.level s.entries

  pub page_count : n.count ≡ length p.entries
  page_count = s.count

  -- what another node shows of this one's entries, it shows of the page's
  pub shows_on : (r : Node) (f : List Entry → List Entry) → Shows r (page n.level (f (held n))) → Shows r (page p.level (f p.entries))
  shows_on r f t = subst (λ q. Shows r (page q.level (f q.entries))) shown_page t

  -- below the number no default is met
  pub page_at_lem : (i : ℕ) (d : Entry) → i < n.count → get_or n.entries i d ≡ get_or p.entries i d
  page_at_lem i d h = sym (get_or-take n.count n.entries i d h) ∙ ap (λ es. get_or es i d) s.entries

-- ---- a run copied

pub drop_take : {A : Type 0} (n m : ℕ) (l : List A) → drop n (take m l) ≡ take (m - n) (drop n l)
drop_take zero m l =
    let e : m ≡ m - 0 = omega arith in
    ap (λ k. take k l) e
drop_take (suc n) zero l =
    let e : 0 ≡ 0 - suc n = omega arith in
    ap (λ k. take k (drop (suc n) l)) e
drop_take (suc n) (suc m) [] = sym (take-nil (suc m - suc n))
drop_take (suc n) (suc m) (x ∷ l) =
    let e : m - n ≡ suc m - suc n = omega arith in
    drop_take n m l ∙ ap (λ k. take k (drop n l)) e

-- one entry a turn: l is d with the first j elements of s copied to the place at
module _ {A : Type 0} (d : List A) (at : ℕ) (s : List A) (j : ℕ) (z : A) (l : List A) (made : l ≡ paste d at s j) where
  -- the next store makes the copy of one more
  pub copy_more : (w : ℕ) (x : A) (k : ℕ) → w ≡ at + j → x ≡ get_or s j z → k ≡ suc j → at + j < length d → j < length s
      → set l w x ≡ paste d at s k
  copy_more w x k ew ex ek hd hs = cc (paste-suc d at s j z hd hs)

  pub copy_front : (w : ℕ) → w ≡ at + j → at ≤ length d → j ≤ length s → take w l ≡ take at d ++ take j s
  copy_front w ew hd hs = cc (take-paste d at s j hd hs)

-- a copy is made: the node, with its number set
pub copy_shows : (n : Node) (d : List Entry) (at : ℕ) (s : List Entry) (j : ℕ) (p : Page) → n.entries ≡ paste d at s j
    → length d ≡ 10 → at + j ≤ 10 → j ≤ length s → n.count ≡ at + j → n.level ≡ p.level → take at d ++ take j s ≡ p.entries
    → Shows n p
copy_shows n d at s j p made f h hs ew l e =
    shows n p
    (ap length made ∙ length-paste d at s j (omega arith) hs ∙ f)
    l
    (copy_front d at s j blank_entry n.entries made n.count ew (omega arith) hs ∙ e)

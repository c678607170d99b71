-- Bytes that are known, read or written in two steps; and the front of a buffer whose further part was read into.
use Rattle.std.proofs.Common.{◌≡◌, sym, ap, ◌∙◌, ℕ, ◌+◌, ◌≤◌, List, ◌++◌, length, take, Option, None, Some}
use Rattle.std.proofs.lemmas.List.{length-take-le, take-append-le}
use Rattle.std.proofs.Math.Seq.{take-append-add}
use borrow.Rule.Slice.PartMut.{put_mid, post_of}
use Rattle.std.proofs.Common.{append_assoc}
use Rattle.std.specs.Io.KnownBytes.{Consumes}

pub consumes_more : (old mid new : Option (List ℕ)) (first next : List ℕ) → Consumes old mid first → Consumes mid new next → Consumes old new (first ++ next)
consumes_more None mid new first next f g = tt
consumes_more (Some xs) None new first next f g = elim f [ ]
consumes_more (Some xs) (Some ys) None first next f g = elim g [ ]
consumes_more (Some xs) (Some ys) (Some zs) first next f g = f ∙ ap (λ l. first ++ l) g ∙ sym (append_assoc first next zs)

pub front_more : (a k n : ℕ) (xs ys : List ℕ) → a ≤ length xs → n ≤ length ys → take (a + n) (put_mid a k xs ys) ≡ take a xs ++ take n ys
front_more a k n xs ys within fits =
    let long = length-take-le a xs within in
    ap (λ m. take (m + n) (take a xs ++ (ys ++ post_of a k xs))) (sym long)
    ∙ take-append-add (take a xs) (ys ++ post_of a k xs) n
    ∙ ap (λ l. take a xs ++ l) (take-append-le n ys (post_of a k xs) fits)

-- The records of what a query and a card hand back tell all of it. By the cases. Assumes nothing.
use Prim.Native.Nat.{ℕ}
use mathlib.Core.Path.{◌≡◌, ap}
use Rattle.std.specs.Prelude.{Result, Ok, Err}
use Rattle.table.specs.declared.given.Refusal.{Refusal}
use Rattle.table.specs.Given.{Given, Done}
use Rattle.asking.specs.declared.answer.Reply.{Reply}
use Rattle.refusals.specs.declared.answered.Refused.{Refused}
use Rattle.refusals.specs.Told.{Answered, answered, Carded, carded, TellsAll}

same_refusal : {r s : Refusal} → ◌≡◌ {A = Given} (Err r) (Err s) → r ≡ s
same_refusal e = cc

granted_not : {A : Type 0} {r : Refusal} → ◌≡◌ {A = Given} Done (Err r) → A
granted_not e = cc

refused_not : {A : Type 0} {r : Refusal} → ◌≡◌ {A = Given} (Err r) Done → A
refused_not e = cc

query_all : (r r' : Result Reply Refused) → answered r ≡ answered r' → r ≡ r'
query_all (Ok r) (Ok s) e =
    let n = ap (λ (x : Answered). x.n) e in
    let m = ap (λ (x : Answered). x.m) e in
    let o = ap (λ (x : Answered). x.o) e in
    ap Ok (λ i. record { n = n i; m = m i; o = o i })
query_all (Ok r) (Err s) e = granted_not (ap (λ (x : Answered). x.given) e)
query_all (Err r) (Ok s) e = refused_not (ap (λ (x : Answered). x.given) e)
query_all (Err r) (Err s) e =
    let w = same_refusal (ap (λ (x : Answered). x.given) e) in
    let n = ap (λ (x : Answered). x.n) e in
    ap Err (λ i. record { why = w i; length = n i })

card_all : (r r' : Result ℕ Refused) → carded r ≡ carded r' → r ≡ r'
card_all (Ok r) (Ok s) e = ap Ok (ap (λ (x : Carded). x.names) e)
card_all (Ok r) (Err s) e = granted_not (ap (λ (x : Carded). x.given) e)
card_all (Err r) (Ok s) e = refused_not (ap (λ (x : Carded). x.given) e)
card_all (Err r) (Err s) e =
    let w = same_refusal (ap (λ (x : Carded). x.given) e) in
    let n = ap (λ (x : Carded). x.names) e in
    ap Err (λ i. record { why = w i; length = n i })

pub tells_all : TellsAll
tells_all = record { query = query_all; card = card_all }

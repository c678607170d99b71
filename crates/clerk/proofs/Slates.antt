-- What a job leaves on the slate: it stays as wide. Assumes nothing.
use Prim.Native.Nat.{ℕ}
use Rattle.asking.specs.Slate.{Slate, Wide}
use Rattle.desk.proofs.Slates.{wide_left}
use Rattle.jobs.specs.declared.job.Job.{Job}
use Rattle.jobs.specs.declared.job.Job.TheVariants.{Enrol, Withdraw, Query, Card, MissingK, Misshapen}
use Rattle.clerk.specs.Sheet.{State}
use Rattle.clerk.specs.Running.{slate_of_job}

pub wide_job : {n : ℕ} {s : Slate} (st : State) (j : Job) → Wide n s → Wide n (slate_of_job st j s)
wide_job st (Query a b k) h = wide_left _ _ _ _ h
wide_job st (Enrol n a b) h = h
wide_job st (Withdraw n) h = h
wide_job st (Card n k) h = h
wide_job st (MissingK letter) h = h
wide_job st Misshapen h = h

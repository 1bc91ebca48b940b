-- What a table told, or nothing beside an outcome, as the host gets it. Assumes nothing.
use Rattle.std.specs.Prelude.{◌≡◌, ℕ, Result, Ok, Err, MatchResult}
use Rattle.std.proofs.Common.{refl, ap}
use Rattle.std.specs.Result.{result_unwrap_or, ResultUnwrapsOrElse}
use Rattle.rules.specs.Finding.{Finding, Share, Counts, uncounted}
use Rattle.finding.specs.declared.Share as code
use Rattle.finding.specs.declared.counts.Counts as counts
use Rattle.finding.specs.declared.Untold.{Untold}
use Rattle.finding.specs.Answers.{outcome_of, finding_told}
use Rattle.finding.specs.Peers.{share_told}
use Rattle.finding.specs.All.{counts_told}

-- the outcome beside an answer
abbrev pub Outcome : {A : Type 0} → Result A Untold → ℕ → Type 0
Outcome r o = MatchResult r (λ x. o ≡ 0) (λ e. o ≡ outcome_of e)

pub number_is : (r : Result ℕ Untold) {n : ℕ} → n ≡ result_unwrap_or r 0 → n ≡ (finding_told r).number
number_is (Ok x) e = e
number_is (Err u) e = e

pub finding_out : (r : Result ℕ Untold) {o n : ℕ} → Outcome r o → n ≡ result_unwrap_or r 0 → ◌≡◌ {A = Finding} (record { outcome = o; number = n }) (finding_told r)
finding_out (Ok x) o n = (λ i. record { outcome = o i; number = n i })
finding_out (Err e) o n = (λ i. record { outcome = o i; number = n i })

-- a share, or zeros
module _ (P : code.Share → Type 0) (zeros : (s : code.Share) → P s → (s.sessions ≡ 0) × (s.teids ≡ 0)) where
  pub share_is : (r : Result code.Share Untold) {s : code.Share} → ResultUnwrapsOrElse r P s → (s.sessions ≡ (share_told r).sessions) × (s.teids ≡ (share_told r).teids)
  share_is (Ok x) h = (ap (λ (s : code.Share). s.sessions) h, ap (λ (s : code.Share). s.teids) h)
  share_is (Err e) {s = s} h = zeros s h

  pub share_out : (r : Result code.Share Untold) {o : ℕ} {s : code.Share} → Outcome r o → ResultUnwrapsOrElse r P s
      → ◌≡◌ {A = Share} (record { outcome = o; sessions = s.sessions; teids = s.teids }) (share_told r)
  share_out (Ok x) o h = let z = share_is (Ok x) h in (λ i. record { outcome = o i; sessions = z.0 i; teids = z.1 i })
  share_out (Err e) o h = let z = share_is (Err e) h in (λ i. record { outcome = o i; sessions = z.0 i; teids = z.1 i })

-- all counts, or zeros
pub record Are (s : counts.Counts) (c : Counts) : Type 0 where
  pub sessions1 : s.peer1.sessions ≡ c.sessions1
  pub teids1 : s.peer1.teids ≡ c.teids1
  pub sessions2 : s.peer2.sessions ≡ c.sessions2
  pub teids2 : s.peer2.teids ≡ c.teids2
  pub free : s.free ≡ c.free
  pub addresses : s.addresses ≡ c.free_addresses

module _ (P : counts.Counts → Type 0) (zeros : (s : counts.Counts) → P s → Are s (uncounted 0)) where
  pub counts_are : (r : Result counts.Counts Untold) {s : counts.Counts} → ResultUnwrapsOrElse r P s → Are s (counts_told r)
  counts_are (Ok x) h =
      rw h
      (record { sessions1 = refl; teids1 = refl; sessions2 = refl; teids2 = refl; free = refl; addresses = refl })
  counts_are (Err e) {s = s} h =
      let z = zeros s h in
      record { sessions1 = z.sessions1; teids1 = z.teids1; sessions2 = z.sessions2; teids2 = z.teids2; free = z.free; addresses = z.addresses }

  pub counts_out : (r : Result counts.Counts Untold) {o : ℕ} {s : counts.Counts} → Outcome r o → ResultUnwrapsOrElse r P s
      → ◌≡◌ {A = Counts} (record { outcome = o; sessions1 = s.peer1.sessions; teids1 = s.peer1.teids; sessions2 = s.peer2.sessions; teids2 = s.peer2.teids; free = s.free; free_addresses = s.addresses }) (counts_told r)
  counts_out (Ok x) o h =
      let z = counts_are (Ok x) h in
      (λ i. record { outcome = o i; sessions1 = z.sessions1 i; teids1 = z.teids1 i; sessions2 = z.sessions2 i; teids2 = z.teids2 i; free = z.free i; free_addresses = z.addresses i })
  counts_out (Err e) o h =
      let z = counts_are (Err e) h in
      (λ i. record { outcome = o i; sessions1 = z.sessions1 i; teids1 = z.teids1 i; sessions2 = z.sessions2 i; teids2 = z.teids2 i; free = z.free i; free_addresses = z.addresses i })

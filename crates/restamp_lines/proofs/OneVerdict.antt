-- Each line has exactly one verdict.
use Rattle.std.proofs.Common.{◌≡◌, ℕ, true, List, [], ◌∷◌, ◌+◌, ◌<◌, length, take, drop, sym, ap, subst, refl, arith, ◌∙◌, None, Some, Option, is_some, nat_lt}
use Rattle.time_values.specs.Calendar.{greatest_year}
use Rattle.restamp_place.specs.Places.{body_of}
use Rattle.restamp_lines.specs.Job.{Dropped}
use Rattle.restamp_lines.specs.Job.{Verdict, IsWrittenOver, IsPutWithin, IsPut, IsJudgedIn, Part, part_of, IsJudgedAnywhere, is_inside, alone, MatchesAlone, AreTriedAlone, MatchesFrom, MatchesNoneBefore, IsFirst, is_kept, missed, verdict_of, refused}
use Rattle.restamp_lines.specs.Laws.{OneVerdict}
use Rattle.restamp_formats.specs.Reason.{too_far}
use Rattle.restamp_lines.specs.declared.job.Job.{Job}
use Rattle.restamp_lines.specs.declared.job.TheConstants.{LIMIT, REACH}
use Rattle.restamp_formats.specs.declared.reading.Reading.{Reading}
use Rattle.restamp_formats.specs.declared.reading.Match.{Match}
use Rattle.restamp_formats.proofs.OneWriting.{both_are, one_bool, one_option, one_written}
use Rattle.restamp_formats.proofs.OneReading.{one_after, one_dated, one_in_turn}

one_put : (job : Job) (start : ℕ) (matched : Match) (a b : Verdict)
    → IsPut job start matched a → IsPut job start matched b → a ≡ b
one_put job start matched a b =
    one_bool (nat_lt LIMIT (start + matched.start + matched.length)) (λ x. x ≡ refused (start + matched.start + 1) too_far)
    (IsPutWithin job start matched) a b both_are
    (one_bool (is_kept job matched.moment) (IsWrittenOver job start matched) (λ x. x ≡ Dropped) a b
    (λ p q. p.2 ∙ ap (verdict_of start matched) (one_written job.form matched.moment p.0 q.0 p.1 q.1) ∙ sym q.2) both_are)

-- the part of a line that is its timestamp has one verdict
one_part : (job : Job) (part : Option Part) (a b : Verdict)
    → IsJudgedIn job part a → IsJudgedIn job part b → a ≡ b
one_part job None a b p q = p ∙ sym q
one_part job (Some part) a b p q =
    one_after p.0 q.0 (IsPut job part.start) (λ e x. x ≡ refused (part.start + 1) e) a b
    (one_in_turn job.first.now job.others.now part.is_prefix part.text job.defaults p.0 q.0 p.1 q.1)
    (λ matched. one_put job part.start matched a b) (λ _. both_are) p.2 q.2

one_alone : (job : Job) (line : List ℕ) (k : ℕ) (format : Reading) (a b : Option Match)
    → MatchesAlone job line k format a → MatchesAlone job line k format b → a ≡ b
one_alone job line k format a b p q =
    p.2 ∙ ap (alone line k) (one_dated format true (take REACH (drop k line)) job.defaults p.0 q.0 p.1 q.1) ∙ sym q.2

one_tried_alone : (job : Job) (line : List ℕ) (k : ℕ) (formats : List Reading) (a b : Option Match)
    → AreTriedAlone job line k formats a → AreTriedAlone job line k formats b → a ≡ b
one_tried_alone job line k [] a b p q = p ∙ sym q
one_tried_alone job line k (format ∷ formats) a b (r, p, h) (s, q, k') =
    one_option s (AreTriedAlone job line k formats) (λ s x. x ≡ Some s) a b (one_tried_alone job line k formats a b)
    (λ _. both_are) (rw (one_alone job line k format r s p q) at h) k'

one_near : (job : Job) (line : List ℕ) (k : ℕ) (a b : Option Match)
    → MatchesFrom job line k a → MatchesFrom job line k b → a ≡ b
one_near job line k a b =
    one_bool (is_inside line k) (λ x. x ≡ None) (AreTriedAlone job line k (job.first.now ∷ job.others.now)) a b
    both_are (one_tried_alone job line k (job.first.now ∷ job.others.now) a b)

-- no byte from which on a format matches is skipped
not_before : (job : Job) (line : List ℕ) (n k : ℕ) (matched : Match)
    → MatchesNoneBefore job line n → k < n → MatchesFrom job line k (Some matched) → ⊥
not_before job line n k matched none below says =
    absurd (cc (one_near job line k (Some matched) None says (none k below)))

one_first : (job : Job) (line : List ℕ) (a b : Option (ℕ × Match))
    → IsFirst job line a → IsFirst job line b → a ≡ b
one_first job line None None p q = refl
one_first job line None (Some (k, matched)) p q = absurd (not_before job line (length line) k matched p q.0 q.1)
one_first job line (Some (i, matched)) None p q = absurd (not_before job line (length line) i matched q p.0 p.1)
one_first job line (Some (i, matched)) (Some (k, other)) p q =
    let low : i < k → ⊥ = λ below. not_before job line k i matched q.2 below p.1 in
    let high : k < i → ⊥ = λ below. not_before job line i k other p.2 below q.1 in
    let same : i ≡ k = omega (arith, low, high) in
    let e = one_near job line k (Some matched) (Some other) (subst (λ n. MatchesFrom job line n (Some matched)) same p.1) q.1 in
    cc

-- the first such byte has one verdict
one_anywhere : (job : Job) (line : List ℕ) (a b : Verdict)
    → IsJudgedAnywhere job line a → IsJudgedAnywhere job line b → a ≡ b
one_anywhere job line a b (r, p, h) (s, q, k) =
    one_option s (λ x. x ≡ missed job) (λ f. IsPut job f.0 f.1) a b both_are (λ f. one_put job f.0 f.1 a b)
    (rw (one_first job (body_of line) r s p q) at h) k

pub one_verdict : OneVerdict
one_verdict job line a b =
    one_bool (is_some job.place) (IsJudgedIn job (part_of job.place line)) (IsJudgedAnywhere job line) a b
    (one_part job (part_of job.place line) a b) (one_anywhere job line a b)

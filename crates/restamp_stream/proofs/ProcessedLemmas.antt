-- Lines were processed, and then more lines.
use Rattle.std.specs.Io.KnownBytes.{Appends}
use Rattle.std.proofs.Common.{◌≡◌, ℕ, ◌+◌, ◌≤◌, List, ◌++◌, length, take, sym, arith, ◌∙◌, [], ◌∷◌, refl, append_assoc, append-nil, Option, zero, suc, ◌<◌, map, get_or, None, Some, Ok, Err, inl, inr, ◌⊎◌, Result, IfErr, IfSome, OnOk}
use Rattle.std.proofs.lemmas.List.{take-append-le, take_all, drop_all, drop-append-le, map_more}
use Rattle.std.proofs.KnownBytes.{Appends-trans, Appends-nil, Appends-kept}
use Rattle.byte_streams.specs.Faults.{Rises, IsCutOff}
use Rattle.byte_streams.specs.Lines.{Line, ended, unended}
use Rattle.restamp_stream.specs.Streams.{Settings, Job, text_of, IsReport, IsAnswered, AreAnswered, State, Processed, job_of, Served, before_lines, AreProcessed, ProcessedFile, ProcessedFiles, StoppedIn, ProcessedBefore, ProcessedAll, ProcessedSome}
use Rattle.restamp_stream.specs.Reports.{TailAction, Tally, Action, count_action, counted, front_text, tail_action_of, passed, IsAllowed}
use Rattle.restamp_stream.specs.Buffered.{Flushes}
use Rattle.restamp_stream.specs.Causes.{Stop, Unread, Refused, HasWriteCause}

AreAnswered-then : (job : Job) (t : Tally) (lines more : List Line) (actions others : List Action) (text rest reports after : List ℕ)
    → AreAnswered job t lines actions text reports → AreAnswered job (counted t actions) more others rest after
    → AreAnswered job t (lines ++ more) (actions ++ others) (text ++ rest) (reports ++ after)
AreAnswered-then job t [] more actions others text rest reports after p q = rw (p.0, p.1, p.2) (rw p.0 at q)
AreAnswered-then job t (line ∷ lines) more actions others text rest reports after p q = (
  p.0,
  p.1 ++ others,
  p.2,
  p.3 ++ rest,
  p.4,
  p.5 ++ after,
  p.6,
  AreAnswered-then job (count_action t p.0) lines more p.1 others p.3 rest p.5 after p.7 (rw p.8 at q),
  rw p.8,
  rw (p.9, append_assoc),
  rw (p.10, append_assoc),
)

counted-append : (t : Tally) (actions others : List Action) → counted t (actions ++ others) ≡ counted (counted t actions) others
counted-append t [] others = refl
counted-append t (f ∷ actions) others = counted-append (count_action t f) actions others

pub Processed-none : {job : Job} {a : State} → Processed job a a [] []
Processed-none {a = a} =
    record { text = []; reports = []; become = (refl, refl, refl); written = Appends-nil a.out; reported = Appends-nil a.log; tallied = refl }

pub Processed-then : {job : Job} {a b c : State} {lines more : List Line} {actions others : List Action}
    → Processed job a b lines actions → Processed job b c more others → Processed job a c (lines ++ more) (actions ++ others)
Processed-then {job} {a} {c = c} {lines} {more} {actions} {others} p q =
    let tallied : c.tally ≡ counted a.tally (actions ++ others) = rw (counted-append, ← p.tallied) q.tallied in
    search (
      AreAnswered-then job a.tally lines more actions others p.text q.text p.reports q.reports p.become (rw p.tallied at q.become),
      Appends-trans _ _ _ _ _ p.written q.written,
      Appends-trans _ _ _ _ _ p.reported q.reported,
      tallied,
    )

-- the buffered bytes are written
pub Processed-settled : {job : Job} {a b c : State} {lines : List Line} {actions : List Action}
    → Flushes b c → Processed job a b lines actions → Processed job a c lines actions
Processed-settled s p =
    search (p.become, Appends-kept _ _ _ _ p.written s.out, Appends-kept _ _ _ _ p.reported s.log, s.tally ∙ p.tallied)

-- ---- one line

AreAnswered-one : (job : Job) (t : Tally) (line : Line) (action : Action) (text report : List ℕ)
    → AreAnswered job t (line ∷ []) (action ∷ []) text report → IsAnswered job (count_action t action) line action text report
AreAnswered-one job t line action text report p = grind (arith, append-nil {A = ℕ})

AreAnswered-of : (job : Job) (t : Tally) (line : Line) (action : Action) (text report : List ℕ)
    → IsAnswered job (count_action t action) line action text report → AreAnswered job t (line ∷ []) (action ∷ []) text report
AreAnswered-of job t line action text report p =
    (action, [], text, [], report, [], p, (refl, refl, refl), refl, sym (append-nil text), sym (append-nil report))

passed-nil : (r : TailAction) → passed r [] ≡ []
passed-nil r = grind arith

pub passed-append : (r : TailAction) (xs ys : List ℕ) → passed r (xs ++ ys) ≡ passed r xs ++ passed r ys
passed-append r xs ys = grind arith

-- a line is processed by its front
pub Processed-started : (job : Job) (a b : State) (front : List ℕ) (action : Action) (report : List ℕ) → length front ≤ job.limit
    → job.is_action front action
    → IsAllowed job.settings.strict action → Appends a.out b.out (front_text job.settings.output job.settings.suffix.now front action)
    → b.tally ≡ count_action a.tally action
    → IsReport job b.tally front action report → Appends a.log b.log report → Processed job a b (unended front ∷ []) (action ∷ [])
Processed-started job a b front action report short is allowed p e r q =
    let text = front_text job.settings.output job.settings.suffix.now front action in
    let whole : take job.limit front ≡ front = take_all job.limit front short in
    let answered : IsAnswered job (count_action a.tally action) (unended front) action text report =
    (rw whole is, allowed, rw (whole, drop_all job.limit front short, passed-nil, append-nil), rw whole (rw e at r)) in
    search (AreAnswered-of job a.tally (unended front) action text report answered, p, q, e)

-- Between the two states those bytes were written to the writer, and nothing else was done.
pub record Writes (before after : State) (bytes : List ℕ) : Type 0 where
  pub out : Appends before.out after.out bytes
  pub log : after.log ≡ before.log
  pub tally : after.tally ≡ before.tally

-- a line with an equal front, whose output is that text and more
Processed-grown : {job : Job} {a b c : State} {line : Line} (new : Line) {action : Action} {more : List ℕ}
    → take job.limit new.text ≡ take job.limit line.text → text_of job new action ≡ text_of job line action ++ more
    → Writes b c more → Processed job a b (line ∷ []) (action ∷ []) → Processed job a c (new ∷ []) (action ∷ [])
Processed-grown {job} {a} {c = c} {line} new {action} {more} same grown w p =
    let was : IsAnswered job (count_action a.tally action) line action p.text p.reports = AreAnswered-one job a.tally line action p.text p.reports p.become in
    let text = p.text ++ more in
    let answered : IsAnswered job (count_action a.tally action) new action text p.reports =
    (rw same was.0, was.1, rw (grown, was.2), rw same was.3) in
    let reported : Appends a.log c.log p.reports = rw w.log p.reported in
    search (AreAnswered-of job a.tally new action text p.reports answered, Appends-trans _ _ _ _ _ p.written w.out, reported, w.tally ∙ p.tallied)

-- the line ends
pub Processed-ended : {job : Job} {a b c : State} {line : List ℕ} {action : Action}
    → Writes b c (passed (tail_action_of job.settings.output action) (10 ∷ [])) → Processed job a b (unended line ∷ []) (action ∷ [])
    → Processed job a c (ended line ∷ []) (action ∷ [])
Processed-ended {line = line} w p = Processed-grown (ended line) refl (simp (passed-append, append-nil, append_assoc)) w p

-- the line goes on after its front, and may end
pub Processed-more : {job : Job} {a b c : State} {text : List ℕ} (more ending : List ℕ) {action : Action} → job.limit ≤ length text
    → Writes b c (passed (tail_action_of job.settings.output action) (more ++ ending)) → Processed job a b (unended text ∷ []) (action ∷ [])
    → Processed job a c (record { text = text ++ more; ending = ending } ∷ []) (action ∷ [])
Processed-more {job} {text = text} more ending long w p =
    Processed-grown (record { text = text ++ more; ending = ending }) (take-append-le job.limit text more long)
    (simp (take-append-le, drop-append-le, passed-append, append-nil, append_assoc)) w p

-- ---- Files were processed, and then one more, or the work stopped in that one

-- The bytes of a source are those of its file, if these are known.
of_known : {job : Job} (bytes : Option (List ℕ)) {remaining left : Option (List ℕ)} {a b : State} → IfSome bytes (λ bs. remaining ≡ Some bs)
    → ProcessedSome job remaining left a b → ProcessedSome job bytes left a b
of_known {job} None {left = left} {a} known p =
    let served : Served job None left (before_lines a) p.answered p.rest p.held = search (p.served.kept, p.served.answered) in search (p, served)
of_known (Some bs) known p = rw known at p

known_all : (bytes remaining : Option (List ℕ)) (P : List ℕ → Type 0) → IfSome bytes (λ bs. remaining ≡ Some bs) → IfSome remaining P → IfSome bytes P
known_all None remaining P known p = tt
known_all (Some bs) remaining P known p = rw known at p

-- a file that was opened was processed, or cut off
pub file_done : (result served : Result (Unit {0}) Stop) (job : Job) (bytes remaining left : Option (List ℕ)) (a b : State)
    (f0 f1 given n0 n1 n2 : ℕ) → OnOk result (IfErr served (λ stop. stop ≡ Unread))
    → IfSome bytes (λ bs. remaining ≡ Some bs) → f0 ≡ 0 → n1 ≡ n0 → OnOk served (IfSome remaining (ProcessedAll job a b))
    → IfErr served (λ stop. stop ≡ Unread → ProcessedSome job remaining left a b)
    → IfErr served (λ stop. stop ≡ Unread → IsCutOff f0 f1 given) → (IsCutOff 0 f1 given → Rises n1 n2)
    → OnOk result (ProcessedFile job bytes n0 n2 a b)
file_done (Err stop) served job bytes remaining left a b f0 f1 given n0 n1 n2 on known none kept all some is closed = tt
file_done (Ok done) (Ok whole) job bytes remaining left a b f0 f1 given n0 n1 n2 on known none kept all some is closed =
    inl (known_all bytes remaining _ known all)
file_done (Ok done) (Err stop) job bytes remaining left a b f0 f1 given n0 n1 n2 on known none kept all some is closed =
    inr (rw (← kept) (closed (rw none at (is on))), inl (left, of_known bytes known (some on)))

module _ (is_action : List ℕ → Action → Type 0) (is_reason : List ℕ → ℕ → List ℕ → Type 0) (settings : Settings) (bytes_of : List ℕ → Option (List ℕ)) where
  abbrev files_Did : ℕ → ℕ → State → State → List (List ℕ) → Type 0
  files_Did = ProcessedFiles is_action is_reason settings bytes_of

  ProcessedFiles-push : (n k m : ℕ) (a b c : State) (names : List (List ℕ)) (name : List ℕ) → files_Did n k a b names
      → ProcessedFile (job_of is_action is_reason name settings) (bytes_of name) k m b c → k ≤ m → files_Did n m a c (names ++ name ∷ [])
  ProcessedFiles-push n k m a b c [] name p q h = (c, m, rw (p.0, p.1) q, omega arith, (refl, refl))
  ProcessedFiles-push n k m a b c (first ∷ names) name p q h = (p.0, p.1, p.2, p.3, ProcessedFiles-push p.1 k m p.0 b c names name p.4 q h)

  -- the file at the index was processed
  pub ProcessedFiles-more : {X : Type 0} (f : X → List ℕ) (n k m : ℕ) (a b c : State) (xs : List X) (i : ℕ) (x : X)
      → files_Did n k a b (map f (take i xs)) → i < length xs
      → ProcessedFile (job_of is_action is_reason (f (get_or xs i x)) settings) (bytes_of (f (get_or xs i x))) k m b c → k ≤ m
      → files_Did n m a c (map f (take (i + 1) xs))
  ProcessedFiles-more f n k m a b c xs i x p below q h =
      rw (map_more f xs i x below) (ProcessedFiles-push n k m a b c (map f (take i xs)) (f (get_or xs i x)) p q h)

  -- the work stopped in the file at the index
  pub StoppedIn-at : {X : Type 0} (f : X → List ℕ) (n k m : ℕ) (a b c : State) (xs : List X) (i : ℕ) (x : X)
      → files_Did n k a b (map f (take i xs)) → i < length xs
      → IfSome (bytes_of (f (get_or xs i x))) (ProcessedBefore (job_of is_action is_reason (f (get_or xs i x)) settings) b c) → k ≤ m
      → StoppedIn is_action is_reason settings bytes_of n m a c (map f xs)
  StoppedIn-at f n k m a b c [] i x p below q h = absurd (omega (arith, below))
  StoppedIn-at f n k m a b c (y ∷ ys) zero x p below q h = inl (rw p.0 q, omega arith)
  StoppedIn-at f n k m a b c (y ∷ ys) (suc i) x p below q h = inr (p.0, p.1, p.2, p.3, StoppedIn-at f p.1 k m p.0 b c ys i x p.4 (omega (arith, below)) q h)

  later : (n m : ℕ) (a b : State) (names : List (List ℕ)) → files_Did n m a b names → n ≤ m
  later n m a b [] p = omega arith
  later n m a b (name ∷ names) p = omega (arith, p.3, later p.1 m p.0 b names p.4)

  -- no file was cut off
  pub ProcessedFiles-done : (n m : ℕ) (a b : State) (names : List (List ℕ)) → files_Did n m a b names → (Rises n m → ⊥)
      → AreProcessed is_action is_reason settings bytes_of a b names
  ProcessedFiles-done n m a b [] p quiet = p.0
  ProcessedFiles-done n m a b (name ∷ names) (between, mid, inl processed, le, rest) quiet =
      (between, processed, ProcessedFiles-done mid m between b names rest (λ r. quiet (omega (arith, le, r.0), omega (arith, le, r.1))))
  ProcessedFiles-done n m a b (name ∷ names) (between, mid, inr cut, le, rest) quiet =
      let after = later mid m between b names rest in
      absurd (quiet (omega (arith, cut.0.0, after), omega (arith, cut.0.1, after)))

-- a stop for another reason than a failed read
pub why_stopped : (result : Result (Unit {0}) Stop) (n m : ℕ) → IfErr result (λ stop. ¬ (stop ≡ Unread)) → HasWriteCause result n m
    → IfErr result (λ stop. (stop ≡ Refused) ⊎ Rises n m)
why_stopped result n m unread cause = grind arith

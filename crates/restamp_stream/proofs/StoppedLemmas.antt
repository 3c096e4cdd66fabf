-- The work stops at a rejected line.
use Rattle.std.specs.Io.KnownBytes.{Consumes, IsAtEnd}
use Rattle.std.proofs.Common.{◌≡◌, ℕ, ◌<◌, ◌≤◌, List, [], ◌∷◌, ◌++◌, length, refl, arith, append_assoc, suc, append-nil, Option, None, Some, IfSome, ◌∙◌}
use Rattle.std.proofs.KnownBytes.{Keeps-trans, Appends-kept, Consumes-nil, Consumes-trans, Consumes-whole}
use Rattle.std.proofs.lemmas.List.{take_all, take_at}
use Rattle.byte_streams.specs.Lines.{Line, ended, unended, onto_first, lines_of, HasNoLf}
use Rattle.byte_streams.proofs.LinesLemmas.{lines_of-joined, lines_of-ended, lines_of-last, past_lf}
use Rattle.restamp_stream.specs.Streams.{IsReport, Job, front_of, State, Processed, RefusedAt, Stopped, IsBuffered, Served}
use Rattle.restamp_stream.specs.Buffered.{Continues, Stops, StoppedBy, Flushes}
use Rattle.restamp_stream.specs.Reports.{Refused, TailAction, Absent, Action, HasFront}
use Rattle.restamp_stream.proofs.ProcessedLemmas.{Processed-none, Processed-then, Processed-settled}
use Rattle.restamp_stream.proofs.AnsweredLemmas.{Processed-apart, whole-apart, Answered-none, Answered-read, IsDone, Answered-done}
use Rattle.restamp_stream.specs.Causes.{Stop, Unread, Unwritten, Refused as StopRefused}

-- the lines begin with one that has that front
abbrev BeginsWith : Job → List ℕ → List Line → Type 0
BeginsWith job front lines = (line : Line) × (others : List Line) × (lines ≡ line ∷ others) × (front_of job line ≡ front)

-- lines were processed, and then the work stopped at the next one
Stopped-at : {job : Job} {a b c : State} {lines : List Line} {actions : List Action} {front : List ℕ} (all : List Line)
    → Processed job a b lines actions → BeginsWith job front all → RefusedAt job b c front → Stopped job a c (lines ++ all)
Stopped-at {job} {b = b} {c} {lines} all processed first stopped =
    let whole : lines ++ all ≡ lines ++ first.0 ∷ first.1 = rw first.2 in
    let here : RefusedAt job b c (front_of job first.0) = rw first.3 stopped in search (processed, whole, here)

Stopped-then : {job : Job} {a b c : State} {lines : List Line} {actions : List Action} (all : List Line)
    → Processed job a b lines actions → Stopped job b c all → Stopped job a c (lines ++ all)
Stopped-then {lines = lines} all processed p =
    let whole : lines ++ all ≡ (lines ++ p.lines) ++ p.line ∷ p.others = rw (p.whole, append_assoc) in
    search (Processed-then processed p.processed, whole, p.stopped)

Stops-first : {job : Job} {b c : State} {held front : List ℕ} → ((more : List ℕ) → BeginsWith job front (lines_of (held ++ more)))
    → RefusedAt job b c front → Stops job b c Absent held
Stops-first {held = held} first stopped a read more p =
    rw (whole-apart p, append_assoc, lines_of-joined p.lines (held ++ more) p.apart)
    (Stopped-at (lines_of (held ++ more)) (Processed-apart p) (first more) stopped)

-- the work stops at a line that ends
pub Stops-line : {job : Job} {b c : State} {held line : List ℕ} (left : List ℕ) → held ≡ line ++ 10 ∷ left → HasNoLf line → length line ≤ job.limit
    → RefusedAt job b c line → Stops job b c Absent held
Stops-line {job} {held = held} {line} left e plain short =
    Stops-first (λ more. (ended line, lines_of (left ++ more), rw (e, append_assoc) (lines_of-ended line (left ++ more) plain), take_all job.limit line short))

-- bytes with no LF are the front of the first line
onto : (x : ℕ) (lines : List Line) → (after ending : List ℕ) × (others : List Line)
    × (onto_first x lines ≡ record { text = x ∷ after; ending = ending } ∷ others)
onto x [] = ([], [], [], refl)
onto x (line ∷ lines) = (line.text, line.ending, lines, refl)

front_first : (x : ℕ) (front more : List ℕ) → HasNoLf (x ∷ front) → (after ending : List ℕ) × (others : List Line)
    × (lines_of ((x ∷ front) ++ more) ≡ record { text = (x ∷ front) ++ after; ending = ending } ∷ others)
front_first x [] more plain = rw (past_lf x more (plain 0 (omega arith))) (onto x (lines_of more))
front_first x (y ∷ front) more plain =
    let p = front_first y front more (λ k below. plain (suc k) (omega arith)) in
    (p.0, p.1, p.2, rw (past_lf x ((y ∷ front) ++ more) (plain 0 (omega arith)), p.3))

first_long : (job : Job) (front more : List ℕ) → 0 < job.limit → HasNoLf front → length front ≡ job.limit → BeginsWith job front (lines_of (front ++ more))
first_long job [] more some plain long = absurd (omega arith)
first_long job (x ∷ front) more some plain long =
    let p = front_first x front more plain in
    (record { text = (x ∷ front) ++ p.0; ending = p.1 }, p.2, p.3, take_at (x ∷ front) p.0 job.limit long)

-- the work stops at a line as long as the limit or longer
pub Stops-long : {job : Job} {b c : State} {held : List ℕ}
    → 0 < job.limit → HasNoLf held → length held ≡ job.limit → RefusedAt job b c held → Stops job b c Absent held
Stops-long {job} {held = held} some plain long = Stops-first (λ more. first_long job held more some plain long)

Stops-then : {job : Job} {a b c : State} {r s : TailAction} {x y : List ℕ} → Continues job a b r x s y → Stops job b c s y → Stops job a c r x
Stops-then p q before read more h = q before read more (p before read h)

pub StoppedBy-map : (stop : Stop) {P Q : Type 0} → (P → Q) → StoppedBy stop P → StoppedBy stop Q
StoppedBy-map Unread f p = p
StoppedBy-map Unwritten f p = p
StoppedBy-map StopRefused f p = f p

pub StoppedBy-refused : {P Q : Type 0} (stop : Stop) → (P → Q) → StoppedBy stop P → stop ≡ StopRefused → Q
StoppedBy-refused stop f p is = f (rw is at p)

pub StoppedBy-then : {job : Job} {a b : State} (c : State) {r s : TailAction} {x y : List ℕ} (stop : Stop) → Continues job a b r x s y
    → StoppedBy stop (Stops job b c s y) → StoppedBy stop (Stops job a c r x)
StoppedBy-then c stop p q = StoppedBy-map stop (Stops-then p) q

-- the buffered bytes are written
RefusedAt-settled : {job : Job} {a b c : State} {front : List ℕ} → Flushes b c → RefusedAt job a b front → RefusedAt job a c front
RefusedAt-settled {job} {c = c} {front} s p =
    let reports : IsReport job c.tally front Refused p.report = rw s.tally p.reports in
    search (p, reports, Keeps-trans _ _ _ p.kept s.out, Appends-kept _ _ _ _ p.reported s.log, s.tally ∙ p.tallied)

Stopped-settled : {job : Job} {a b c : State} {all : List Line} → Flushes b c → Stopped job a b all → Stopped job a c all
Stopped-settled s p = search (RefusedAt-settled s p.stopped)

pub Stops-settled : {job : Job} {a b c : State} {rest : TailAction} {held : List ℕ} → Flushes b c → Stops job a b rest held → Stops job a c rest held
Stops-settled s p before read more q = Stopped-settled s (p before read more q)

-- the work stops at the last line
pub Stopped-last : {job : Job} {a b c : State} {line rest : List ℕ} → lines_of rest ≡ unended rest ∷ [] → line ≡ rest → length line ≤ job.limit
    → Flushes b c → RefusedAt job a b line → Stopped job a c (lines_of rest)
Stopped-last {job} {line = line} {rest} is e short s stopped =
    Stopped-at (lines_of rest) Processed-none (unended rest, [], is, rw (← e) (take_all job.limit line short)) (RefusedAt-settled s stopped)

-- ---- What was read and processed, to the end

-- no line is left
pub finished-none : (job : Job) (a : State) (rest : List ℕ) → length rest ≡ 0 → (actions : List Action) × Processed job a a (lines_of rest) actions
finished-none job a [] e = ([], Processed-none)
finished-none job a (x ∷ rest) e = absurd (omega arith)

-- the last line has no LF
pub finished : {job : Job} {a b c : State} {line rest : List ℕ} {action : Action} → 0 < length rest → HasNoLf rest → line ≡ rest
    → Flushes b c → Processed job a b (unended line ∷ []) (action ∷ []) → (actions : List Action) × Processed job a c (lines_of rest) actions
finished {rest = rest} {action} some plain is s processed =
    (action ∷ [], rw (lines_of-last rest some plain, ← is) (Processed-settled s processed))

-- ---- the bytes buffered before a read

IsBuffered-nil : (job : Job) (rest : TailAction) → 0 < job.limit → IsBuffered job rest []
IsBuffered-nil job rest some = grind arith

pub IsBuffered-short : (job : Job) (rest : TailAction) (held : List ℕ) → 0 < job.limit → IsBuffered job rest held → length held < job.limit
IsBuffered-short job rest held some p = grind arith

-- no more bytes were read
pub HasNoLf-same : (job : Job) (rest : TailAction) (held new more : List ℕ) → IsBuffered job rest held → new ≡ held ++ more → more ≡ [] → HasNoLf new
HasNoLf-same job rest held new more p e none = grind (arith, append-nil {A = ℕ})

none_left : (job : Job) (rest : TailAction) (held new more : List ℕ) → IsBuffered job rest held → new ≡ held ++ more → more ≡ [] → HasFront rest → new ≡ []
none_left job rest held new more p e none front = grind (arith, append-nil {A = ℕ})

-- ---- reads

pub Served-none : (job : Job) (r : Option (List ℕ)) (a : State) (held : List ℕ) → 0 < job.limit → held ≡ [] → Served job r r a a Absent held
Served-none job r a held h e = rw e (record { read = []; consumed = Consumes-nil r; kept = IsBuffered-nil job Absent h; answered = Answered-none [] })

-- one more read
pub Served-more : {job : Job} {r0 r1 r2 : Option (List ℕ)} {a b c : State} {held new left : List ℕ} (more : List ℕ) {rest rest1 : TailAction}
    → Served job r0 r1 a b rest held → new ≡ held ++ more → Consumes r1 r2 more → Continues job b c rest new rest1 left
    → IsBuffered job rest1 left → Served job r0 r2 a c rest1 left
Served-more {a = a} more p e q next kept =
    search (Consumes-trans _ _ _ _ _ p.consumed q, kept, next a (p.read ++ more) (Answered-read more e p.answered))

-- the end of the input
Served-done : {job : Job} {r0 r1 : Option (List ℕ)} {a b : State} {held new : List ℕ} (more : List ℕ) (rest : TailAction) → 0 < job.limit
    → (p : Served job r0 r1 a b rest held) → new ≡ held ++ more → more ≡ [] → IsDone job a b (p.read ++ more) new
Served-done {job} {held = held} {new} more rest some p e none =
    Answered-done rest some (none_left job rest held new more p.kept e none) (Answered-read more e p.answered)

pub Served-all : {job : Job} {r0 r1 : Option (List ℕ)} (r2 : Option (List ℕ)) {a b c : State} {held new : List ℕ} (more : List ℕ) {rest : TailAction}
    → 0 < job.limit → Served job r0 r1 a b rest held → new ≡ held ++ more → more ≡ [] → Consumes r1 r2 more → IsAtEnd r2
    → (actions : List Action) × Processed job b c (lines_of new) actions
    → IfSome r0 (λ bytes. (actions : List Action) × Processed job a c (lines_of bytes) actions)
Served-all r2 more {rest} some p e none q end last =
    let done = Served-done more rest some p e none in
    Consumes-whole _ r2 (p.read ++ more) _ (Consumes-trans _ _ r2 p.read more p.consumed q) end
    (done.actions ++ last.0, rw done.cut (Processed-then done.processed last.1))

-- ---- the work stops

-- the work stopped at the last line
pub Served-stopped_at_end : {job : Job} {r0 r1 : Option (List ℕ)} (r2 : Option (List ℕ)) {a b c : State} {held new : List ℕ} (more : List ℕ)
    {rest : TailAction} → 0 < job.limit → Served job r0 r1 a b rest held → new ≡ held ++ more → more ≡ [] → Consumes r1 r2 more → IsAtEnd r2
    → Stopped job b c (lines_of new) → IfSome r0 (λ bytes. Stopped job a c (lines_of bytes))
Served-stopped_at_end r2 {new = new} more {rest} some p e none q end last =
    let done = Served-done more rest some p e none in
    Consumes-whole _ r2 (p.read ++ more) _ (Consumes-trans _ _ r2 p.read more p.consumed q) end
    (rw done.cut (Stopped-then (lines_of new) done.processed last))

Consumes-front : (a b : Option (List ℕ)) (bs : List ℕ) (P : List ℕ → Type 0) → Consumes a b bs → ((more : List ℕ) → P (bs ++ more)) → IfSome a P
Consumes-front None b bs P p h = tt
Consumes-front (Some x) None bs P p h = absurd p
Consumes-front (Some x) (Some y) bs P p h = rw p (h y)

-- the work stopped at a line before the last
pub Served-stopped : {job : Job} {r0 r1 : Option (List ℕ)} (r2 : Option (List ℕ)) {a b c : State} {held new : List ℕ} (more : List ℕ) {rest : TailAction}
    → Served job r0 r1 a b rest held → new ≡ held ++ more → Consumes r1 r2 more → Stops job b c rest new
    → IfSome r0 (λ bytes. Stopped job a c (lines_of bytes))
Served-stopped r2 {a = a} more p e q stops =
    Consumes-front _ r2 (p.read ++ more) _ (Consumes-trans _ _ r2 p.read more p.consumed q)
    (λ behind. stops a (p.read ++ more) behind (Answered-read more e p.answered))

-- Which of some bytes were processed.
use Rattle.std.proofs.Common.{◌≡◌, ℕ, ◌<◌, ◌≤◌, List, [], ◌∷◌, ◌++◌, length, take, ◌+◌, refl, sym, ap, ◌∙◌, arith, append_assoc, append-nil, Option}
use Rattle.std.proofs.KnownBytes.{Keeps-refl}
use Rattle.std.proofs.lemmas.List.{length-append, take_at}
use Rattle.std.specs.Io.KnownBytes.{Appends, append_known}
use Rattle.restamp_stream.specs.Reports.{TailAction, Absent, Passing, Dropping, Output, Action, tail_action_of, passed, HasFront}
use Rattle.byte_streams.specs.Lines.{Line, ended, unended, joined, HasNoLf, lines_of}
use Rattle.byte_streams.proofs.LinesLemmas.{joined-append, AreEnded-append, HasNoLf-append, lines_of-joined, lines_of-last}
use Rattle.restamp_stream.specs.Streams.{Job, State, Processed, IsLong, IsStarted, Answered}
use Rattle.restamp_stream.specs.Buffered.{Continues, ContinuesLine, EndsLine, Flushes}
use Rattle.restamp_stream.proofs.ProcessedLemmas.{Writes, Processed-none, Processed-then, Processed-settled, Processed-ended, Processed-more}

pub Answered-none : {job : Job} {a : State} (bytes : List ℕ) → Answered job a a bytes Absent bytes
Answered-none {a = a} bytes =
    record { lines = []; actions = []; between = a; text = []; whole = refl; apart = tt; processed = Processed-none; started = (refl, refl) }

-- these lines were processed, and the text so far of the last one may have changed
Answered-moved : {job : Job} {a b c : State} {read read' held held' : List ℕ} {rest rest' : TailAction} (p : Answered job a b read rest held)
    (text : List ℕ) → read' ≡ joined p.lines ++ (text ++ held') → IsStarted job p.between c text rest' → Answered job a c read' rest' held'
Answered-moved p text whole started = search (p, whole, started)

-- the line whose text is the text so far, and more, ends
Answered-line : {job : Job} {a b c : State} {read held line left : List ℕ} {action : Action} {rest : TailAction} (p : Answered job a b read rest held)
    → p.text ++ held ≡ line ++ 10 ∷ left → HasNoLf line → Processed job p.between c (ended line ∷ []) (action ∷ []) → Answered job a c read Absent left
Answered-line {job} {c = c} {read} {line = line} {left} p e plain processed =
    let whole : read ≡ joined (p.lines ++ ended line ∷ []) ++ ([] ++ left) = rw (p.whole, e, joined-append) (simp (append_assoc, append-nil)) in
    let started : IsStarted job c c [] Absent = (refl, refl) in
    search (whole, AreEnded-append p.lines (ended line ∷ []) p.apart (plain, refl, tt), Processed-then p.processed processed, started)

-- more bytes follow
pub Answered-read : {job : Job} {a b : State} {bytes held new : List ℕ} {rest : TailAction} (more : List ℕ) → new ≡ held ++ more
    → Answered job a b bytes rest held → Answered job a b (bytes ++ more) rest new
Answered-read more e p = Answered-moved p p.text (rw (p.whole, e, append_assoc, append_assoc)) p.started

-- the lines that end were processed, if no other line has started
pub Processed-apart : {job : Job} {a b : State} {bytes held : List ℕ} (p : Answered job a b bytes Absent held) → Processed job a b p.lines p.actions
Processed-apart p = rw p.started.1 at p.processed

pub whole-apart : {job : Job} {a b : State} {bytes held : List ℕ} (p : Answered job a b bytes Absent held) → bytes ≡ joined p.lines ++ held
whole-apart p = rw p.started.0 at p.whole

-- one more line, which ends
pub Continues-line : {job : Job} {b c d : State} {held line left : List ℕ} {action : Action} {rest : TailAction} → held ≡ line ++ 10 ∷ left
    → HasNoLf line → tail_action_of job.settings.output action ≡ rest → Processed job b c (unended line ∷ []) (action ∷ [])
    → Writes c d (passed rest (10 ∷ [])) → Continues job b d Absent held Absent left
Continues-line {action = action} e plain rests processed w a read p =
    Answered-line {action = action} p (rw p.started.0 e) plain (rw p.started.1 (Processed-ended (rw rests w) processed))

tail_action_of-front : (output : Output) (action : Action) → HasFront (tail_action_of output action)
tail_action_of-front output action = grind arith

IsStarted-long : {job : Job} {a b : State} {text : List ℕ} (rest : TailAction) → HasFront rest → IsLong job a b text rest → IsStarted job a b text rest
IsStarted-long rest front p = grind arith

long-IsStarted : {job : Job} {a b : State} {text : List ℕ} (rest : TailAction) → HasFront rest → IsStarted job a b text rest → IsLong job a b text rest
long-IsStarted rest front p = grind arith

-- a line starts that is as long as the limit or longer
pub Continues-started : {job : Job} {b c : State} {held : List ℕ} {rest : TailAction} {action : Action} → HasNoLf held → job.limit ≤ length held
    → tail_action_of job.settings.output action ≡ rest → Processed job b c (unended held ∷ []) (action ∷ []) → Continues job b c Absent held rest []
Continues-started {job} {held = held} {rest} {action} plain long rests processed a read p =
    Answered-moved p held (rw (whole-apart p, append-nil)) (IsStarted-long rest (rw rests at (tail_action_of-front job.settings.output action))
    (record { action = action; rests = rests; started = plain; long = long; processed = rw p.started.1 processed }))

-- more bytes of the line that has started are copied or dropped
pub ContinuesLine-continues : {job : Job} {b c : State} (rest : TailAction) {bytes : List ℕ} → c.log ≡ b.log → c.tally ≡ b.tally → HasFront rest
    → ContinuesLine b.out c.out rest bytes → Continues job b c rest bytes rest []
ContinuesLine-continues {job} {b} {c} rest {bytes} log tally front w a read p =
    let so_far = long-IsStarted rest front p.started in
    let written : Writes b c (passed (tail_action_of job.settings.output so_far.action) (bytes ++ [])) =
    record { out = rw (so_far.rests, append-nil) w.1; log = log; tally = tally } in
    let long : job.limit ≤ length (p.text ++ bytes) = omega (arith, so_far.long, length-append p.text bytes) in
    Answered-moved p (p.text ++ bytes) (rw (p.whole, append-nil)) (IsStarted-long rest front
    (search (so_far, HasNoLf-append p.text bytes so_far.started w.0, long, Processed-more bytes [] so_far.long written so_far.processed)))

-- ---- the buffered bytes are written

pub append_known-nil : (known : Option (List ℕ)) → append_known known [] ≡ known
append_known-nil known = grind (arith, append-nil {A = ℕ})

IsLong-settled : {job : Job} {a b c : State} {text : List ℕ} {rest : TailAction} → Flushes b c → IsLong job a b text rest → IsLong job a c text rest
IsLong-settled s p = search (Processed-settled s p.processed)

pub Answered-settled : {job : Job} {a b c : State} {bytes held : List ℕ} (rest : TailAction) → Flushes b c
    → Answered job a b bytes rest held → Answered job a c bytes rest held
Answered-settled {job} {c = c} Absent s p =
    let processed = Processed-settled s (Processed-apart p) in
    let started : IsStarted job c c p.text Absent = (p.started.0, refl) in search (p, processed, started)
Answered-settled _ s p = Answered-moved p p.text p.whole (IsLong-settled s p.started)

pub Continues-settled : {job : Job} {a b c : State} {held held' : List ℕ} {rest rest' : TailAction} → Flushes b c
    → Continues job a b rest held rest' held' → Continues job a c rest held rest' held'
Continues-settled {rest' = rest'} s p before read q = Answered-settled rest' s (p before read q)

-- ---- the rest of a line whose front was processed

Continues-ended : {job : Job} {b c : State} {bytes after : List ℕ} (rest : TailAction) (line : List ℕ) → HasFront rest → c.log ≡ b.log → c.tally ≡ b.tally
    → bytes ≡ line ++ 10 ∷ after → HasNoLf line → Appends b.out c.out (passed rest (line ++ 10 ∷ [])) → Continues job b c rest bytes Absent after
Continues-ended {job} {b} {c} rest line front log tally e plain w a read p =
    let so_far = long-IsStarted rest front p.started in
    let written : Writes b c (passed (tail_action_of job.settings.output so_far.action) (line ++ 10 ∷ [])) =
    record { out = rw so_far.rests w; log = log; tally = tally } in
    Answered-line p (rw (e, append_assoc)) (HasNoLf-append p.text line so_far.started plain)
    (Processed-more line (10 ∷ []) so_far.long written so_far.processed)

pub EndsLine-continues : {job : Job} {b c : State} (rest : TailAction) {bytes after : List ℕ} → c.log ≡ b.log → c.tally ≡ b.tally
    → EndsLine b.out c.out rest bytes after → Continues job b c rest bytes Absent after
EndsLine-continues {b = b} Absent log tally p a read q =
    rw p.0 (Answered-settled Absent (record { out = p.1; log = rw log (Keeps-refl b.log); tally = tally }) q)
EndsLine-continues rest log tally p a read q = Continues-ended rest p.0 tt log tally p.1 p.2 p.3 a read q

-- the first bytes, which are the line with its LF
line_with_lf : (bytes line after : List ℕ) → bytes ≡ line ++ 10 ∷ after → take (length line + 1) bytes ≡ line ++ 10 ∷ []
line_with_lf bytes line after e =
    ap (take (length line + 1)) (e ∙ sym (append_assoc line (10 ∷ []) after))
    ∙ take_at (line ++ 10 ∷ []) after (length line + 1) (length-append line (10 ∷ []))

pub EndsLine-front : (out out' : Option (List ℕ)) (rest : TailAction) (bytes line after : List ℕ) → HasFront rest → bytes ≡ line ++ 10 ∷ after → HasNoLf line
    → Appends out out' (passed rest (take (length line + 1) bytes)) → EndsLine out out' rest bytes after
EndsLine-front out out' Absent bytes line after front e plain w = absurd front
EndsLine-front out out' Passing bytes line after front e plain w = (line, e, plain, rw (line_with_lf bytes line after e) at w)
EndsLine-front out out' Dropping bytes line after front e plain w = (line, e, plain, w)

-- ---- the end

-- Lines were processed, and the lines of the input are these and those of the bytes `held`.
pub record IsDone (job : Job) (a b : State) (bytes held : List ℕ) : Type 0 where
  pub lines : List Line
  pub actions : List Action
  pub processed : Processed job a b lines actions
  pub cut : lines_of bytes ≡ lines ++ lines_of held

done_long : {job : Job} {a b : State} {bytes held : List ℕ} {rest : TailAction} (p : Answered job a b bytes rest held) → 0 < job.limit → held ≡ []
    → IsLong job p.between b p.text rest → IsDone job a b bytes held
done_long {bytes = bytes} {held} p some none long =
    let last : lines_of p.text ≡ unended p.text ∷ [] = lines_of-last p.text (omega (arith, some, long.long)) long.started in
    let cut : lines_of bytes ≡ (p.lines ++ unended p.text ∷ []) ++ lines_of held =
    rw (p.whole, none, append-nil p.text, append-nil (p.lines ++ unended p.text ∷ []), lines_of-joined p.lines p.text p.apart, last) in
    search (Processed-then p.processed long.processed, cut)

-- the end of the input
pub Answered-done : {job : Job} {a b : State} {bytes held : List ℕ} (rest : TailAction) → 0 < job.limit → (HasFront rest → held ≡ [])
    → Answered job a b bytes rest held → IsDone job a b bytes held
Answered-done {bytes = bytes} {held} Absent some none p =
    let cut : lines_of bytes ≡ p.lines ++ lines_of held = rw (whole-apart p) (lines_of-joined p.lines held p.apart) in search (Processed-apart p, cut)
Answered-done _ some none p = done_long p some (none tt) p.started

pub Continues-then : {job : Job} {a b c : State} {r s t : TailAction} {x y z : List ℕ}
    → Continues job a b r x s y → Continues job b c s y t z → Continues job a c r x t z
Continues-then p q before read h = q before read (p before read h)

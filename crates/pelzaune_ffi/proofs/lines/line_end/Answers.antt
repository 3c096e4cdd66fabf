use Rattle.std.proofs.Common.{◌≢◌, ◌<◌, ℕ, get_or, arith, inl, inr}
use Rattle.std.proofs.lemmas.Bool.{cases_lt}
use Rattle.byte_streams.proofs.LinesLemmas.{line_texts-cut}
use Rattle.pelzaune_ffi.proofs.StoredRows.{searched}
use Rattle.pelzaune_ffi.proofs.lines.line_end.Goals as goal

pub returns-in-Some : goal.returns-in-Some
returns-in-Some c =
    let found = c.in-Some.ensures in
    (omega arith, line_texts-cut c.args.text.now c.in-Some.end (omega arith) found.1 (λ k below. found.2 k (omega arith) below))

pub returns-in-Some-lf_among : goal.returns-in-Some-lf_among
returns-in-Some-lf_among c =
    let found = c.in-Some-lf_among.ensures in
    let before : (k : ℕ) → k < c.in-Some-lf_among.end → get_or c.args.text.now k 0 ≢ 10 =
    λ k below. elim (cases_lt k 32) [ inl low ↦ c.in_default.ensures k (omega arith) low | inr high ↦ found.2 k high below ] in
    (omega arith, line_texts-cut c.args.text.now c.in-Some-lf_among.end (omega arith) found.1 before)

pub returns : goal.returns
returns c = searched c.args.text.now c.memchr.result c.requires c.memchr.ensures

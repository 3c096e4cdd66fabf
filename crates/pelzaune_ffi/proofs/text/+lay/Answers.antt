use Rattle.std.specs.Borrow.{Bor}
use Rattle.std.proofs.Common.{◌≡◌, ℕ, ◌≤◌, ◌<◌, ◌-◌, List, [], ◌∷◌, ◌++◌, length, take, drop, get_or, refl, ap, arith}
use Rattle.std.proofs.lemmas.List.{take_rest}
use Rattle.pelzaune_ffi.specs.Status.{laid_over, text_of}
use Rattle.pelzaune_ffi.proofs.text.+lay.Goals as goal

-- ---- Texts written over the start of a buffer

-- writing a text that starts with a piece writes that piece first
laid_over-append : (text rest buffer : List ℕ) → length text < length buffer
    → text ++ laid_over rest (drop (length text) buffer) ≡ laid_over (text ++ rest) buffer
laid_over-append [] rest buffer short = refl
laid_over-append (x ∷ text) rest [] short = grind (arith, short)
laid_over-append (x ∷ text) rest (y ∷ buffer) short =
    ap (λ xs. x ∷ xs) (laid_over-append text rest buffer (grind (arith, short)))

-- writing pieces writes the first of them, and then the others
laid_over-pieces : (pieces : List (Bor (List ℕ))) (none : Bor (List ℕ)) (buffer : List ℕ) → 1 ≤ length pieces
    → length (get_or pieces 0 none).now < length buffer
    → (get_or pieces 0 none).now
    ++ laid_over (text_of (take (length pieces - 1) (drop 1 pieces))) (drop (length (get_or pieces 0 none).now) buffer)
    ≡ laid_over (text_of pieces) buffer
laid_over-pieces [] none buffer some short = grind (arith, some)
laid_over-pieces (piece ∷ pieces) none buffer some short =
    let others : take (length (piece ∷ pieces) - 1) pieces ≡ pieces = take_rest (piece ∷ pieces) 1 in
    rw others (laid_over-append piece.now (text_of pieces) buffer short)

pub returns : goal.returns
returns t c =
    let bytes = c.as_bytes-bytes.ensures.value in
    rw (c.copy_from_slice-2.ensures.after, c.lay.ensures, c.split_at_mut-front.ensures.back, bytes)
    (laid_over-pieces c.args.pieces.now _ c.args.buffer.now c.in-len1-up.len_at_least (grind (arith, bytes, c.if-buffer-bytes.false)))

use Rattle.std.proofs.Common.{◌≡◌, ℕ, ◌+◌, ◌-◌, ◌≤◌, List, ◌++◌, length, take, drop, ap, arith, refl, ◌∙◌, length-drop}
use Rattle.std.proofs.lemmas.List.{take_all, take-take, length-take-le, append_assoc, length-append, take-append-drop}
use Rattle.byte_streams.proofs.BufferLemmas.{filled}
use Rattle.byte_streams.proofs.buffered.fast.put_halves.Goals as goal

-- two overlapping halves of a text, the second written after the first
halves : (a k n : ℕ) (xs ys rest more : List ℕ) → a ≤ length xs → k ≤ n → length ys ≡ k + n
    → take (a + length ys) (take (a + k) (take a xs ++ (take n ys ++ rest)) ++ (take (length ys - k) (drop k ys) ++ more)) ≡ take a xs ++ ys
halves a k n xs ys rest more h few long =
    let whole : a + length ys ≡ a + k + n = omega arith in
    let first : length (take n ys) ≡ n = length-take-le n ys (omega arith) in
    let last : length (drop k ys) ≡ n = omega (arith, length-drop k ys) in
    let front : take (a + k) (take a xs ++ (take n ys ++ rest)) ≡ take a xs ++ take k ys =
    filled a k xs (take n ys) rest (take a xs) refl h (omega arith) ∙ ap (λ l. take a xs ++ l) (take-take k n ys few) in
    let reach : a + k ≤ length (take a xs ++ (take n ys ++ rest)) =
    omega (arith, length-take-le a xs h, length-append (take a xs) (take n ys ++ rest), length-append (take n ys) rest) in
    let back : take (length ys - k) (drop k ys) ≡ drop k ys = take_all (length ys - k) (drop k ys) (omega arith) in
    ap (λ j. take j (take (a + k) (take a xs ++ (take n ys ++ rest)) ++ (take (length ys - k) (drop k ys) ++ more))) whole
    ∙ ap (λ l. take (a + k + n) (take (a + k) (take a xs ++ (take n ys ++ rest)) ++ (l ++ more))) back
    ∙ filled (a + k) n (take a xs ++ (take n ys ++ rest)) (drop k ys) more (take a xs ++ take k ys) front reach (omega arith)
    ∙ ap (λ l. take a xs ++ take k ys ++ l) (take_all n (drop k ys) (omega arith))
    ∙ append_assoc (take a xs) (take k ys) (drop k ys) ∙ ap (λ l. take a xs ++ l) (take-append-drop k ys)

pub returns : goal.returns
returns g c =
    rw (c.copy_from_slice.ensures.after, c.copy_from_slice-2.ensures.after)
    (halves c.args.at (length c.args.bytes.now - g.row.N) g.row.N c.args.array.now c.args.bytes.now _ _
    (omega arith) (omega arith) (omega arith))

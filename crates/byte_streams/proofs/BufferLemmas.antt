-- The bytes in an array from a start to an end, after more were appended.
use Rattle.std.proofs.Common.{◌≡◌, ℕ, ◌+◌, ◌-◌, ◌≤◌, List, ◌++◌, length, take, drop, ap, sym, subst, arith, ◌∙◌, refl}
use Rattle.std.proofs.lemmas.List.{take_at, drop-take, length-take-le, length-drop, take-append-le, drop-append-le, drop-drop, take_all, append_assoc}
use Rattle.std.proofs.Math.Seq.{take-append-add}

-- the first bytes of an array, after n bytes were written after its first a
pub filled : (a n : ℕ) (xs ys rest items : List ℕ) → take a xs ≡ items → a ≤ length xs → n ≤ length ys
    → take (a + n) (take a xs ++ (ys ++ rest)) ≡ items ++ take n ys
filled a n xs ys rest items e h k =
    subst (λ (m : ℕ). take (m + n) (take a xs ++ (ys ++ rest)) ≡ take a xs ++ take n ys) (length-take-le a xs h)
    (take-append-add (take a xs) (ys ++ rest) n ∙ ap (λ l. take a xs ++ l) (take-append-le n ys rest k))
    ∙ ap (λ l. l ++ take n ys) e

-- the bytes from a start to an end are those before the end, without those before the start
pub from_start : (s e : ℕ) (xs : List ℕ) → s ≤ e → take (e - s) (drop s xs) ≡ drop s (take e xs)
from_start s e xs h =
    let whole : s + (e - s) ≡ e = omega arith in
    sym (drop-take s (e - s) xs) ∙ ap (λ n. drop s (take n xs)) whole

-- bytes written after the first e of an array
pub put_behind : (e : ℕ) (xs ys rest : List ℕ) → e ≤ length xs → take (e + length ys) (take e xs ++ (ys ++ rest)) ≡ take e xs ++ ys
put_behind e xs ys rest h =
    filled e (length ys) xs ys rest (take e xs) refl h (omega arith) ∙ ap (λ l. take e xs ++ l) (take_all (length ys) ys (omega arith))

-- Bytes were appended to those from a start to an end.
pub appended : (s e to : ℕ) (xs ys more items : List ℕ) → take (e - s) (drop s xs) ≡ items → s ≤ e → e ≤ length xs → e ≤ to
    → take to ys ≡ take e xs ++ more → take (to - s) (drop s ys) ≡ items ++ more
appended s e to xs ys more items is h below later put =
    let within : s ≤ length (take e xs) = omega (arith, length-take-le e xs below) in
    from_start s to ys (omega arith) ∙ ap (drop s) put ∙ drop-append-le s (take e xs) more within
    ∙ ap (λ l. l ++ more) (sym (from_start s e xs h) ∙ is)

-- The bytes after the end were overwritten.
pub overwritten : (s e : ℕ) (xs rest items : List ℕ) → take (e - s) (drop s xs) ≡ items → s ≤ e → e ≤ length xs
    → take (e - s) (drop s (take e xs ++ rest)) ≡ items
overwritten s e xs rest items is h below =
    from_start s e (take e xs ++ rest) h ∙ ap (drop s) (take_at (take e xs) rest e (length-take-le e xs below)) ∙ sym (from_start s e xs h) ∙ is

-- three texts written one after the other
pub put_three : (e m b z : ℕ) (xs first second third p t q : List ℕ) → take m first ≡ take e xs ++ p → take b second ≡ take m first ++ t
    → take z third ≡ take b second ++ q → take z third ≡ take e xs ++ (p ++ (t ++ q))
put_three e m b z xs first second third p t q one two three =
    three ∙ ap (λ l. l ++ q) (two ∙ ap (λ l. l ++ t) one) ∙ append_assoc (take e xs ++ p) t q ∙ append_assoc (take e xs) p (t ++ q)

-- the number of bytes from a start to an end
pub length-from_start : (s e : ℕ) (xs items : List ℕ) → take (e - s) (drop s xs) ≡ items → e ≤ length xs → length items ≡ e - s
length-from_start s e xs items is h =
    let some : e - s ≤ length (drop s xs) = omega (arith, length-drop s xs) in
    sym (ap length is) ∙ length-take-le (e - s) (drop s xs) some

-- the last n bytes of those from a start to an end
pub kept_last : (s e n : ℕ) (xs items : List ℕ) → take (e - s) (drop s xs) ≡ items → s ≤ e → e ≤ length xs → n ≤ length items
    → take (e - (e - n)) (drop (e - n) xs) ≡ drop (length items - n) items
kept_last s e n xs items is h below few =
    let long : length items ≡ e - s = length-from_start s e xs items is below in
    let behind : e - n ≡ s + (length items - n) = omega (arith, few, long) in
    from_start (e - n) e xs (omega arith) ∙ ap (λ k. drop k (take e xs)) behind
    ∙ sym (drop-drop (length items - n) s (take e xs)) ∙ ap (drop (length items - n)) (sym (from_start s e xs h) ∙ is)

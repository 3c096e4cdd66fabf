use Rattle.std.proofs.Common.{◌≡◌, ℕ, ◌+◌, ◌≤◌, List, ◌++◌, length, take, drop, sym, ap, ◌∙◌, arith, rules}
use Rattle.std.proofs.lemmas.List.{take-append-le, length-take-le}
use Rattle.std.proofs.Math.Seq.{take-append-add}
use borrow.Rule.Slice.PartMut.{put_mid}
use Rattle.time_values.proofs.text.Text.append_some.Goals as goal

-- ---- Bytes written to an array

-- the prefix of an array up to a part of the bytes written
some_put : (xs ys : List ℕ) (a k count : ℕ) → a ≤ length xs → count ≤ length ys
    → take (a + count) (put_mid a k xs ys) ≡ take a xs ++ take count ys
some_put xs ys a k count h g =
    let long : length (take a xs) ≡ a = length-take-le a xs h in
    ap (λ n. take (n + count) (put_mid a k xs ys)) (sym long) ∙ take-append-add (take a xs) (ys ++ drop k (drop a xs)) count
    ∙ ap (λ l. take a xs ++ l) (take-append-le count ys (drop k (drop a xs)) g)

pub returns : goal.returns
returns c =
    let long = c.self.told in
    some_put c.self.inside.array c.copy_from_slice.new.self c.self.inside.len _ c.args.count (omega (arith, long, c.self.invariant)) (search rules)
    ∙ ap (λ t. t.items ++ take c.args.count c.copy_from_slice.new.self) c.self.view_is
    ∙ ap (λ b. c.args.self.now.items ++ take c.args.count b) c.copy_from_slice.ensures.after

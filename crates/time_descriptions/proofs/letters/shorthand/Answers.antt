use Rattle.std.proofs.Common.{List, ℕ, Bor, Option, Some, None, ◌≡◌, map, refl, ap, ◌∙◌, sym}
use Rattle.std.specs.Option.{option_map}
use Rattle.std.specs.Prelude.{true, false, ◌==◌, [], ◌∷◌, Bool, if◌then◌else◌}
use Rattle.time_descriptions.specs.Items.{Finds}
use Rattle.time_descriptions.specs.Strftime.{row_of, shorthands}
use Rattle.time_descriptions.proofs.letters.shorthand.Goals as goal

-- a row, without memory addresses
seen_row : ℕ × Bor (List ℕ) → ℕ × List ℕ
seen_row r = (r.0, r.1.now)

seen : Option (Bor (List ℕ)) → Option (List ℕ)
seen o = option_map (λ b. b.now) o

first : (b : Bool) (x : Bor (List ℕ)) (o : Option (Bor (List ℕ))) (p : Option (List ℕ)) → p ≡ seen o
    → (if b then Some x.now else p) ≡ seen (if b then Some x else o)
unfolding seen
first true x o p e = refl
first false x o p e = e

row_of-seen : (rows : List (ℕ × Bor (List ℕ))) (letter : ℕ) → row_of (map seen_row rows) letter ≡ seen (row_of rows letter)
unfolding row_of seen_row seen
row_of-seen [] letter = refl
row_of-seen (r ∷ rows) letter = first (r.0 == letter) r.1 (row_of rows letter) (row_of (map seen_row rows) letter) (row_of-seen rows letter)

sees : (o : Option (Bor (List ℕ))) (found : Option (List ℕ)) → found ≡ seen o → Finds (λ (b : Bor (List ℕ)). b.now) o found
unfolding seen
sees (Some x) found e = e
sees None found e = e

pub returns : goal.returns
unfolding shorthands seen_row
returns c = sees c.row_of.result _ (row_of-seen _ c.args.letter ∙ ap seen (sym c.row_of.ensures))

use Rattle.std.proofs.Common.{◌≡◌, ℕ, true, List, [], ◌∷◌, ◌++◌, codes, ap, ◌∙◌, subst, append_assoc}
use Rattle.std.proofs.KnownBytes.{Appends-trans}
use Rattle.std.specs.Fmt.{decimal}
use Rattle.std.specs.Io.KnownBytes.{Appends}
use Rattle.restamp_stream.specs.Reports.{displayed_as}
use Rattle.restamp_stream.proofs.LinesLemmas.{OnOk-map}
use Rattle.restamp.proofs.words.write_unread.Goals as goal

joined : (front number middle rest : List ℕ) → (front ++ (number ++ middle)) ++ rest ≡ front ++ (number ++ (middle ++ rest))
joined front number middle rest =
    append_assoc front (number ++ middle) rest ∙ ap (λ (l : List ℕ). front ++ l) (append_assoc number middle rest)

pub returns-clause-written : goal.returns-clause-written
returns-clause-written g c =
    let front : List ℕ = codes "restamp: argument " in
    let number = decimal c.args.number in
    let middle : List ℕ = codes " is not UTF-8: '" in
    let shown = displayed_as true c.args.word.now in
    OnOk-map c.write_all.result _ _ c.write_all.ensures.bytes
    (λ end. subst (Appends (g.L.Sink.contents c.args.log.now) (g.L.Sink.contents c.write_all.new.self))
    (joined front number middle (shown ++ 39 ∷ 10 ∷ []))
    (Appends-trans _ _ _ (front ++ (number ++ middle)) (shown ++ 39 ∷ 10 ∷ []) c.in_ok-write.ensures.bytes
    (Appends-trans _ _ _ shown (39 ∷ 10 ∷ []) c.in_ok-write_escaped.ensures.shown end)))

use Rattle.std.proofs.Common.{◌≡◌, arith, string_bytes}
use Rattle.std.proofs.lemmas.Map.Text.{text_keys}
use Rattle.time_zones.proofs.zones.Zones.insert.Goals as goal

pub returns-in-Ok-clause-ok : goal.returns-in-Ok-clause-ok
returns-in-Ok-clause-ok c =
    let key_text : string_bytes c.in_ok-key.key ≡ c.args.name.now = c.in_ok-key.ensures.ok in
    record {
      found = rw (← key_text) c.in-Ok.ensures.updates.1;
      others = λ other differs. grind (arith, text_keys);
    }

use Rattle.std.proofs.Common.{◌≡◌, ◌∷◌, ◌∙◌, arith, rules, ◌-◌, map, drop, take, length, length-drop, ap, sym}
use Rattle.std.proofs.lemmas.List.{take_all}
use Rattle.std.specs.Prelude.{codes, string_bytes}
use Rattle.voice_main.proofs.Pairing.{in_front}
use Rattle.voice_main.proofs.options.format_numbers.Goals as goal

pub returns : goal.returns
returns c =
    let verb : string_bytes c.verb-item.result ≡ codes "format" = search rules in
    record {
      options = map string_bytes (take (length c.args.words.now - 1) (drop 1 c.args.words.now));
      given = c.in_ok-given.given;
      form = in_front string_bytes c.args.words.now c.verb-item.result (omega (arith, c.in-len1-up.len_at_least)) c.verb-item.is ∙ ap (λ v. v ∷ map string_bytes (drop 1 c.args.words.now)) verb ∙ ap (λ l. codes "format" ∷ map string_bytes l) (sym (take_all (length c.args.words.now - 1) (drop 1 c.args.words.now) (omega (arith, length-drop 1 c.args.words.now))));
      gives = c.in_ok-given.ensures;
      numbers_are = c.numbers.ensures;
    }

use Rattle.std.proofs.Common.{◌≡◌, ◌<◌, Bool, List, length, ap, sym, subst, ◌∙◌}
use Rattle.std.specs.Prelude.{All}
use Rattle.ice_ram.specs.declared.setup.Setup.{Setup}
use Rattle.ice_emit.proofs.contents.is_formed.Goals as goal

pub returns : goal.returns
returns c =
    let words = c.words-words.ensures.words in
    record {
      read_mode = subst (λ (s : Setup). s.read_mode < 4) c.setup-setup.ensures.setup c.setup-setup.ensures.read_mode;
      write_mode = subst (λ (s : Setup). s.write_mode < 4) c.setup-setup.ensures.setup c.setup-setup.ensures.write_mode;
      words = record {
        many = sym (ap length words) ∙ c.words-words.ensures.many;
        wide = subst (λ (ws : List (List Bool)). All (λ word. length word ≡ 16) ws) words c.are_wide.ensures;
      };
    }

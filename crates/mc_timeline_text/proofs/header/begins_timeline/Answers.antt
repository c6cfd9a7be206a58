use Rattle.std.proofs.Common.{◌≡◌, ◌∷◌, ap, rules, sym, ◌∙◌}
use Rattle.mc_protocol.specs.{declared.lines.Separator.TheVariants.Space, Lines.words_of_text}
use Rattle.mc_protocol.proofs.FirstItems.{head_is}
use Rattle.mc_timeline_text.proofs.header.begins_timeline.Goals as goal

pub returns : goal.returns
returns c =
    let start : words_of_text Space c.args.text.now ≡ c.in-Some.line.words ∷ c.next.new.self.words = search rules in (
      (λ is. (c.next.new.self.words, start ∙ ap (λ l. l ∷ c.next.new.self.words) (c.is_header.ensures.0 is))),
      (λ given. c.is_header.ensures.1 (head_is _ _ _ _ (sym start ∙ given.1))),
    )

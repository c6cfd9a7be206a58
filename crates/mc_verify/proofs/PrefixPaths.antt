-- How a path of P goes on by a move.
use Rattle.std.proofs.Common.{◌≡◌, ℕ, None, Some, [], ◌∷◌, ◌++◌, slice_get, ap, sym, ◌∙◌, append-nil}
use Rattle.mc_protocol.specs.declared.actor.Actor.TheVariants as actor
use Rattle.mc_protocol.specs.declared.reply.Class.{Class}
use Rattle.mc_script.specs.declared.step.Template.{Template}
use Rattle.mc_code.specs.{Code.Code, Code.instructions_in, Paths.Slides, Paths.Sends, declared.instr.Instr.Instr}
use Rattle.mc_code.proofs.PathLemmas.{path_slides, path_sends}
use Rattle.mc_sound.specs.Faults.{IsStructured}
use Rattle.mc_verify.specs.PrefixReplies.{LeadsOnInP}
use Rattle.mc_verify.proofs.ShownReplies.{front_one_more}
use Rattle.mc_sound.proofs.Structured.{structured_slides, structured_sends}

pub p_slides : (c : Code) → IsStructured c actor.P → (i : Instr) (p q : ℕ) → slice_get (instructions_in c actor.P) p ≡ Some i → Slides i p q
    → LeadsOnInP c p None q
p_slides c structured i p q at leads =
    let ahead = structured_slides c actor.P structured i p q at leads in
    record {
      later = ahead.0;
      inside = ahead.1;
      leads = λ replies (edges, path, is). (edges, path_slides path i at leads, append-nil replies ∙ is);
    }

pub p_sends : (c : Code) → IsStructured c actor.P → (i : Instr) (p q : ℕ) (t : Template) (class : Class)
    → slice_get (instructions_in c actor.P) p ≡ Some i → Sends c.templates i t class q → LeadsOnInP c p (Some class) q
p_sends c structured i p q t class at leads =
    let ahead = structured_sends c actor.P structured i p q t class at leads in
    record {
      later = ahead.0;
      inside = ahead.1;
      leads = λ replies (edges, path, is). (
        edges ++ (t, class) ∷ [],
        path_sends path i t class at leads,
        ap (λ l. l ++ (actor.P, class) ∷ []) is ∙ sym (front_one_more [] actor.P edges t class),
      );
    }

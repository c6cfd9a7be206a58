-- What is shown of keys, one after another.
use Rattle.std.proofs.Common.{◌≡◌, ℕ, Bool, Option, List, [], ◌∷◌, ◌++◌, length, take, drop, append_assoc, append-nil, sym, ap, subst, refl, ◌∙◌}
use Rattle.std.proofs.lemmas.List.{take-append-drop}
use Rattle.mc_protocol.specs.{Lines.Word, Lines.Words, declared.reply.Reply.Reply}
use Rattle.mc_protocol.specs.declared.reply.Reply.TheVariants as reply
use Rattle.mc_reader.specs.Asks.{Many}
use Rattle.mc_server.specs.Answers.{shown, MayShow, MayShowAll, MayBegin}

-- one more key
pub shown_more : (with_cas : Bool) (keys : Words) (key : Word) (text block : List ℕ) → MayShowAll with_cas keys text → MayShow with_cas key block
    → MayShowAll with_cas (keys ++ key ∷ []) (text ++ block)
shown_more with_cas [] key text block h k = (block, [], k, refl, ap (λ t. t ++ block) h ∙ sym (append-nil block))
shown_more with_cas (other ∷ keys) key text block h k =
    (h.0, h.1 ++ block, h.2, shown_more with_cas keys key h.1 block h.3 k, ap (λ t. t ++ block) h.4 ∙ append_assoc h.0 h.1 block)

-- what was shown of the first keys is the front of the answer
pub shown_front : (with_cas : Bool) (keys first : Words) (text : List ℕ) → first ≡ take (length first) keys → MayShowAll with_cas first text
    → (none : List ℕ) → none ≡ [] → MayBegin (Many with_cas keys) (text ++ none)
shown_front with_cas keys first text front h none is = (
  first,
  drop (length first) keys,
  sym (ap (λ xs. xs ++ drop (length first) keys) front ∙ take-append-drop (length first) keys),
  subst (λ t. MayShowAll with_cas first t) (sym (ap (λ t. text ++ t) is ∙ append-nil text)) h,
)

-- a reply that is no hit shows nothing
pub shown_none : (key : Word) (r : Reply) → ((flags : ℕ) (body : List ℕ) (cas : Option ℕ) → r ≡ reply.Hit flags body cas → ⊥) → shown key r ≡ []
shown_none key (reply.Hit flags body cas) h = absurd (h flags body cas refl)
shown_none key reply.Stored h = refl
shown_none key reply.NotStored h = refl
shown_none key reply.Exists h = refl
shown_none key reply.NotFound h = refl
shown_none key reply.Miss h = refl
shown_none key reply.Deleted h = refl
shown_none key reply.Touched h = refl
shown_none key (reply.Number n) h = refl
shown_none key reply.NotNumber h = refl

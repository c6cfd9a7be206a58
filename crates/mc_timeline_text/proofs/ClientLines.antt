-- Lines that begin with the number of a client: which are distinguished by their first words, and that each spells one value.
use Rattle.std.proofs.Common.{◌≡◌, ◌<◌, ◌≤◌, ◌⊎◌, inl, inr, ℕ, suc, Bool, true, false, not, ◌&&◌, eqb, eqb-true, is_some, decimal, codes}
use Rattle.std.proofs.Common.{None, List, [], ◌∷◌, ◌++◌, drop, refl, sym, ap, ap₂, subst, ◌∙◌, arith}
use Rattle.std.proofs.{lemmas.Bool.cases_lt, lemmas.Fmt.decimal_injective}
use Rattle.mc_protocol.specs.{Lines.Word, Lines.Words, Decimals.SpellsNumber, Decimals.MAX_64, Decimals.are_digits, Spelling.SpellEach}
use Rattle.mc_protocol.proofs.{Decimals.decimal-spells, FirstItems.head_is, FirstItems.rest_is}
use Rattle.mc_model.specs.{declared.act.Choice.Choice, declared.note.Note.Note}
use Rattle.mc_model.specs.declared.note.Note.TheVariants as note
use Rattle.mc_history.specs.HistoryText.{SpellsNoted, marks_of}
use Rattle.mc_history.proofs.LineLemmas.{one_noted, one_number, one_choice, same_pair}
use Rattle.mc_timeline.specs.Timelines.{ClientNote, operations_of, operations_in, placed}
use Rattle.mc_timeline.specs.{declared.limits.TheConstants.CLIENTS_LIMIT, Members.IsIn, Operations.Operation, TimelineText.SpellsClientNote}
use Rattle.mc_timeline.specs.Rules as rule
use Rattle.mc_timeline.proofs.{Begun.room_and_free, Begun.is_small, Following.keep_more}
use Rattle.mc_linearize.specs.declared.explanation.TimelineMove.{TimelineMove}
use Rattle.mc_timeline_text.specs.{TimelineTexts.SpellsClientMove, TimelineParts.SpellsSmall}

-- ---- first words

-- a client's number is no word that has another byte than digits
pub client_is_not : (n : ℕ) (word : Word) → n < CLIENTS_LIMIT → are_digits word ≡ false → decimal n ≡ word → ⊥
client_is_not n word small none e =
    let digits = (decimal-spells MAX_64 n (omega arith) (omega (arith, small))).digits in
    let clash : true ≡ false = sym (subst (λ w. are_digits w ≡ true) e digits) ∙ none in
    cc

-- the word of a client's number spells it, and no other number
pub client_spells : (word : Word) (client : ℕ) → client < CLIENTS_LIMIT → word ≡ decimal client → SpellsNumber MAX_64 word client
client_spells word client small e =
    subst (λ w. SpellsNumber MAX_64 w client) (sym e) (decimal-spells MAX_64 client (omega arith) (omega (arith, small)))

pub client_is : (word : Word) (number client : ℕ) → client < CLIENTS_LIMIT → word ≡ decimal client → SpellsNumber MAX_64 word number
    → number ≡ client
client_is word number client small e spelled = one_number word number client spelled (client_spells word client small e)

-- ---- notes

-- a line spells at most one note of a client with a small number
pub one_note : (line : Words) (x y : ClientNote) → SpellsSmall line x → SpellsSmall line y → x ≡ y
one_note line x y ((v, e, f), m) ((w, d, g), n) =
    same_pair x y (decimal_injective x.0 y.0 (omega (arith, m)) (omega (arith, n)) (head_is _ _ v w (sym e ∙ d)))
    (one_noted v x.1 y.1 f (subst (λ z. SpellsNoted z y.1) (sym (rest_is _ _ v w (sym e ∙ d))) g))

-- what stands after the client's number makes the line's note
pub note_from : (line words others : Words) (client : ℕ) (x : Note) → client < CLIENTS_LIMIT → line ≡ decimal client ∷ others
    → words ≡ drop 1 line → SpellsNoted words x → SpellsSmall line (client, x)
note_from line words others client x small e d spelled = ((words, rw (d, e) refl, spelled), small)

-- if it makes none, the line has none
pub no_note_from : (line words : Words) → words ≡ drop 1 line → ((x : Note) → SpellsNoted words x → ⊥)
    → (x : ClientNote) → SpellsSmall line x → ⊥
no_note_from line words d none x ((others, e, spelled), small) = none x.1 (rw (d, e) spelled)

-- ---- the clients of a timeline have small numbers

small_in : (place : ℕ) (earlier notes : List ClientNote) → rule.KeepRules earlier notes → (x : Operation) → IsIn x (operations_in (placed place notes))
    → x.client < CLIENTS_LIMIT
small_in place earlier [] keep x h = absurd h
small_in place earlier ((who, note.Begin request) ∷ notes) keep x (inl same) =
    subst (λ y. y.client < CLIENTS_LIMIT) (sym same)
    (is_small (operations_of earlier) who request (room_and_free (operations_of earlier) who request keep.0).0)
small_in place earlier ((who, note.Begin request) ∷ notes) keep x (inr later) =
    small_in (suc place) (earlier ++ (who, note.Begin request) ∷ []) notes keep.1 x later
small_in place earlier ((who, note.Reply reply) ∷ notes) keep x h =
    small_in (suc place) (earlier ++ (who, note.Reply reply) ∷ []) notes keep.1 x h

none_waits : (client : ℕ) (operations : List Operation) → ((x : Operation) → IsIn x operations → x.client < CLIENTS_LIMIT) → CLIENTS_LIMIT ≤ client
    → rule.waiting_of client operations ≡ []
none_waits client [] small large = refl
none_waits client (x ∷ operations) small large =
    by (eqb x.client client) refl (none_waits client operations (λ y h. small y (inr h)) large)
  where
    by : (b : Bool) → eqb x.client client ≡ b → rule.waiting_of client operations ≡ [] → rule.waiting_of client (x ∷ operations) ≡ []
    by false e rest = rw e rest
    by true e rest =
        let same = eqb-true x.client client e in
        let low = small x (inl refl) in
        absurd (omega arith)

-- so a note of another client breaks a rule
pub client_is_small : (notes : List ClientNote) → rule.IsTimeline notes → (next : ClientNote) → rule.fault_of notes next ≡ None → next.0 < CLIENTS_LIMIT
client_is_small notes timeline (client, note.Begin request) e =
    is_small (operations_of notes) client request (room_and_free (operations_of notes) client request e).0
client_is_small notes timeline (client, note.Reply reply) e = by (cases_lt client CLIENTS_LIMIT)
  where
    by : (client < CLIENTS_LIMIT) ⊎ (CLIENTS_LIMIT ≤ client) → client < CLIENTS_LIMIT
    by (inl small) = small
    by (inr large) =
        let none = none_waits client (operations_of notes) (λ x h. small_in 0 [] notes timeline x h) large in
        let clash = subst (λ l. rule.reply_fault l reply ≡ None) none e in
        absurd (cc)

-- and each line of a timeline's notes has a small number
pub small_each : (earlier : List ClientNote) (lines : List Words) (notes : List ClientNote) → rule.IsTimeline earlier → rule.KeepRules earlier notes
    → SpellEach SpellsClientNote lines notes → SpellEach SpellsSmall lines notes
small_each earlier [] [] timeline keep each = tt
small_each earlier [] (n ∷ notes) timeline keep each = absurd each
small_each earlier (line ∷ lines) [] timeline keep each = absurd each
small_each earlier (line ∷ lines) (n ∷ notes) timeline keep each = (
  (each.0, client_is_small earlier timeline n keep.0),
  small_each (earlier ++ n ∷ []) lines notes (keep_more [] earlier n timeline keep.0) keep.1 each.1,
)

pub plain_each : (lines : List Words) (notes : List ClientNote) → SpellEach SpellsSmall lines notes → SpellEach SpellsClientNote lines notes
plain_each [] [] each = tt
plain_each [] (n ∷ notes) each = absurd each
plain_each (line ∷ lines) [] each = absurd each
plain_each (line ∷ lines) (n ∷ notes) each = (each.0.0, plain_each lines notes each.1)

-- ---- moves

same_move : (m n : TimelineMove) → m.client ≡ n.client → m.choice ≡ n.choice → m.number ≡ n.number → m ≡ n
same_move m n e d f =
    let made : ℕ → Choice → TimelineMove = λ x y. record { client = x; choice = y; number = m.number } in
    ap₂ made e d ∙ ap (λ z. record n { number = z }) f

-- a line spells at most one move
pub one_client_move : (line : Words) (m n : TimelineMove) → SpellsClientMove line m → SpellsClientMove line n → m ≡ n
one_client_move line m n (v, e, f, p) (w, d, g, q) =
    let same = sym e ∙ d in
    let clients = decimal_injective m.client n.client (omega (arith, p)) (omega (arith, q)) (head_is _ _ _ _ same) in
    let others = rest_is _ _ _ _ same in
    let words = head_is v w (marks_of m.choice) (marks_of n.choice) others in
    let choices = one_choice m.choice n.choice (rest_is v w (marks_of m.choice) (marks_of n.choice) others) in
    let numbers = one_number v m.number n.number f (subst (λ x. SpellsNumber MAX_64 x n.number) (sym words) g) in
    same_move m n clients choices numbers

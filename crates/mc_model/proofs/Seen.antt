-- Cas numbers that were shown, with one more request.
use Rattle.std.proofs.Common.{◌≡◌, Bool, true, false, not, ◌&&◌, ◌||◌, List, [], ◌∷◌, ◌++◌, append_assoc, append-nil, sym, ap, ◌∙◌, arith}
use Rattle.std.proofs.lemmas.List.Folds.{list_any-append}
use Rattle.std.specs.List.{list_any}
use Rattle.mc_model.specs.History.{is_cas, shows, is_seen, are_seen, numbers_are_seen, comes_late}
use Rattle.mc_model.specs.{Types.Actor, Types.Sent, Sections.Sections, Sections.with_sent, Next.number_is_seen}
use Rattle.mc_protocol.specs.declared.actor.Actor.TheVariants as actor
use Rattle.mc_model.proofs.{Added.and_second, Added.and_last, Turns.no_branch}

pub and_once : (x : Bool) → (x && true) ≡ x
and_once x = grind arith

pub and_assoc : (x y z : Bool) → (x && (y && z)) ≡ (x && y && z)
and_assoc x y z = grind arith

-- one more request of a section, after those that it sees
seen_added : (earlier xs : List Sent) (sent : Sent) → are_seen earlier (xs ++ sent ∷ []) ≡ (are_seen earlier xs && is_seen (earlier ++ xs) sent)
seen_added earlier [] sent = and_once (is_seen earlier sent) ∙ ap (λ all. is_seen all sent) (sym (append-nil earlier))
seen_added earlier (x ∷ xs) sent =
    ap (λ b. is_seen earlier x && b)
    (seen_added (earlier ++ x ∷ []) xs sent ∙ ap (λ all. are_seen (earlier ++ x ∷ []) xs && is_seen all sent) (append_assoc earlier (x ∷ []) xs))
    ∙ and_assoc (is_seen earlier x) (are_seen (earlier ++ x ∷ []) xs) (is_seen (earlier ++ x ∷ xs) sent)

or_either : (x y z : Bool) → (x || (y || z)) ≡ ((x || y) || (x || z))
or_either x y z = grind arith

-- what one of two lists shows
seen-append : (xs ys : List Sent) (sent : Sent) → is_seen (xs ++ ys) sent ≡ (is_seen xs sent || is_seen ys sent)
seen-append xs ys sent =
    rw (list_any-append (shows sent.request.key sent.request.number) xs ys)
    (or_either (not (is_cas sent.request.verb)) (list_any (shows sent.request.key sent.request.number) xs)
    (list_any (shows sent.request.key sent.request.number) ys))

alone : (x y : Bool) → (x && y && true && true) ≡ ((x && true && true) && (y || y))
alone x y = grind arith

-- with one more request each number was shown exactly if those before it were and that one's was
pub numbers_added : (s : Sections) (who : Actor) (sent : Sent) → comes_late s who ≡ false
    → numbers_are_seen (with_sent s who sent) ≡ (numbers_are_seen s && number_is_seen s who sent)
numbers_added s actor.P sent late =
    let none = no_branch s late in
    rw (none.0, none.1, seen_added [] s.p sent) (alone (are_seen [] s.p) (is_seen s.p sent))
numbers_added s actor.A sent late =
    rw (seen_added s.p s.a sent, seen-append s.p s.a sent)
    (and_second (are_seen [] s.p) (are_seen s.p s.a) (are_seen s.p s.b) (number_is_seen s actor.A sent))
numbers_added s actor.B sent late =
    rw (seen_added s.p s.b sent, seen-append s.p s.b sent)
    (and_last (are_seen [] s.p) (are_seen s.p s.a) (are_seen s.p s.b) (number_is_seen s actor.B sent))

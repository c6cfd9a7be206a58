-- A store: what a cache holds, and the number of the next version.
use Rattle.std.specs.Prelude.{◌≡◌, ℕ, ◌+◌, ◌<◌, ◌==◌, Bool, true, false, is_some, Result, Ok, Err, List, IfSome, ◌&&◌, if◌then◌else◌, refl}
use Rattle.std.specs.Coded.{Coded, code_by, coded×, coded_ℕ}
use Rattle.std.specs.FinMap as finite_map
use Rattle.mc_protocol.specs.{declared.reply.Reply.Reply, declared.request.Request.Request, Decimals.MAX_64}
use Rattle.mc_model.specs.Act as act
use Rattle.mc_model.specs.{Contents.Contents, Contents.coded_contents, Decide.made_by, declared.act.Choice.Choice}
use Rattle.mc_server.specs.declared.store.StoreFault.{StoreFault}
use Rattle.mc_server.specs.declared.store.StoreFault.TheVariants.{OutOfMemory, NumbersUsedUp}

-- the items that are held, and the number of the next version
pub record Stored : Type 0 where
  pub contents : Contents
  pub next : ℕ

abbrev pub coded_stored : Coded Stored
coded_stored =
    code_by (Contents × ℕ) (coded× coded_contents coded_ℕ) (λ s. (s.contents, s.next))
    (λ p. record { contents = p.0; next = p.1 }) (λ _. refl)

-- every item's number is below the next one
abbrev pub AreBelow : ℕ → Contents → Type 0
AreBelow next contents = (key : List ℕ) → IfSome (finite_map.get contents key) (λ item. item.number < next)

-- nothing is padded, and a body that one server reads as a number and another refuses is read
abbrev pub plain : Choice
plain = record { pad = false; read = true }

-- what a request does to a store: a version has the counter's number
abbrev pub effect_on : Stored → Request → act.Effect
effect_on s request = act.effect_of s.contents request plain s.next

abbrev pub makes_version : act.Change → Bool
makes_version change = is_some (made_by change)

-- the store after a change at the key: the counter grows by one exactly where a version is made
abbrev pub with_change : Stored → List ℕ → act.Change → Stored
with_change s key change = record {
  contents = act.with_change s.contents key change;
  next = if makes_version change then s.next + 1 else s.next;
}

-- the change makes a version, and no number is left for it
abbrev pub is_used_up : Stored → act.Change → Bool
is_used_up s change = makes_version change && (s.next == MAX_64)

-- what a call does and answers; a call that is refused changes nothing
abbrev pub Calls : Stored → Request → Stored → Result Reply StoreFault → Type 0
Calls old request new (Ok reply) =
    (is_used_up old (effect_on old request).change ≡ false) × (reply ≡ (effect_on old request).reply)
    × (new ≡ with_change old request.key (effect_on old request).change)
Calls old request new (Err OutOfMemory) = new ≡ old
Calls old request new (Err NumbersUsedUp) = (is_used_up old (effect_on old request).change ≡ true) × (new ≡ old)

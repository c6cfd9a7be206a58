-- Every effect is an answer alone, a removal, or a version that the reply reports.
use Rattle.std.proofs.Common.{◌≡◌, ℕ, ◌+◌, ◌-◌, ◌^◌, ◌<◌, ◌≤◌, Bool, true, false, ◌&&◌, cond, eqb, ltb, Option}
use Rattle.std.proofs.Common.{Some, None, List, ◌++◌, length, replicate, max, refl, sym, ap, ◌∙◌, arith}
use Rattle.std.proofs.{lemmas.List.append-nil, lemmas.List.length-append, lemmas.List.length-replicate, lemmas.Nat.mod_below, lemmas.Fmt.length-decimal-le}
use Rattle.std.specs.Fmt.{decimal}
use Rattle.mc_protocol.specs.Legal.{class_of, is_fit}
use Rattle.mc_model.specs.Act.{Removes, Effect, answers, puts, store, count, count_from, count_to, counted_body, increment, decrement, effect_by, version}
use Rattle.mc_model.specs.ActLaws.{is_short, body_length, joins, reports_version}
use Rattle.mc_model.specs.{Types.Request, Types.Verb, Types.Reply, Types.Item, Types.Is, Types.Choice, Numeral.numeral_of, Numeral.read_as}
use Rattle.mc_protocol.specs.declared.request.Verb.TheVariants as verb
use Rattle.mc_protocol.specs.declared.reply.Reply.TheVariants as reply
use Rattle.mc_model.proofs.NumeralReadings.{decimal_says, small_numeral}

-- what the body of a version that is made may be
pub data NewBody (request : Request) (found : Option Item) : List ℕ → Type 0 where
  own : joins request.verb ≡ false → NewBody request found request.body
  joining : (body : List ℕ) → joins request.verb ≡ true → length body ≡ body_length found + length request.body → NewBody request found body
  counting : (body : List ℕ) → joins request.verb ≡ false → length body ≤ max 20 (body_length found) → NewBody request found body

-- what an effect may be, and what holds of its parts
pub data Does (request : Request) (number : ℕ) (found : Option Item) : Effect → Type 0 where
  answering : (r : Reply) → reports_version (class_of r) ≡ false → (is_short found ≡ true → is_fit request r ≡ true) → Does request number found (answers r)
  removing : is_fit request reply.Deleted ≡ true → Does request number found (record { change = Removes; reply = reply.Deleted })
  putting : (item : Item) (r : Reply) → item.number ≡ number → reports_version (class_of r) ≡ true → is_fit request r ≡ true
      → ((n : ℕ) → r ≡ reply.Number n → numeral_of item.body ≡ Is n) → NewBody request found item.body → Does request number found (puts item r)

-- a reply that it is stored answers no number
no_number : (n : ℕ) (body : List ℕ) → reply.Stored ≡ reply.Number n → numeral_of body ≡ Is n
no_number n body e = absurd cc

-- a storage makes a version of the request's own body
does_stored : (request : Request) (number : ℕ) (found : Option Item) → is_fit request reply.Stored ≡ true → joins request.verb ≡ false
    → Does request number found (store request number)
does_stored request number found fit alone = putting (version request number) reply.Stored refl refl fit (λ n. no_number n request.body) (own alone)

-- a join makes a version of both bodies
does_joined : (request : Request) (number : ℕ) (item : Item) (body : List ℕ) → is_fit request reply.Stored ≡ true → joins request.verb ≡ true
    → length body ≡ length item.body + length request.body
    → Does request number (Some item) (puts (record { flags = item.flags; body = body; number = number }) reply.Stored)
does_joined request number item body fit both long =
    putting (record { flags = item.flags; body = body; number = number }) reply.Stored refl refl fit (λ n. no_number n body) (joining body both long)

-- a swap stores, or answers that there is another version
does_swapped : (request : Request) (number : ℕ) (item : Item) (b : Bool) → is_fit request reply.Stored ≡ true → is_fit request reply.Exists ≡ true
    → joins request.verb ≡ false
    → Does request number (Some item) (cond b (store request number) (answers reply.Exists))
does_swapped request number item true fit other alone = does_stored request number (Some item) fit alone
does_swapped request number item false fit other alone = answering reply.Exists refl (λ short. other)

-- the decimal, with spaces or without
said_by : (b : Bool) (n spaces : ℕ) → n < 2 ^ 64 → numeral_of (cond b (decimal n ++ replicate spaces 32) (decimal n)) ≡ Is n
said_by true n spaces small = decimal_says n spaces small
said_by false n spaces small = ap numeral_of (sym (append-nil (decimal n))) ∙ decimal_says n 0 small

-- either is at most as long as the longer of 20 bytes and the old body
long : (b : Bool) (n old : ℕ) → length (decimal n) ≤ 20 → length (cond b (decimal n ++ replicate (old - length (decimal n)) 32) (decimal n)) ≤ max 20 old
long b n old few = grind (arith, length-append, length-replicate)

-- a request whose verb counts
record CountsAs (request : Request) : Type 0 where
  absent : is_fit request reply.NotFound ≡ true
  refused : is_fit request reply.NotNumber ≡ true
  number : (n : ℕ) → is_fit request (reply.Number n) ≡ true
  alone : joins request.verb ≡ false

-- a count to a number makes a version whose body says it
does_counted_to : (request : Request) (number : ℕ) (item : Item) (pad : Bool) (n : ℕ) → CountsAs request → n < 2 ^ 64
    → Does request number (Some item) (count_to item pad n number)
does_counted_to request number item pad n as_count small =
    let shorter : Bool = pad && ltb (length (decimal n)) (length item.body) in
    putting (record { flags = item.flags; body = counted_body pad item.body n; number = number }) (reply.Number n) refl refl (as_count.number n)
    (λ m e. let same : n ≡ m = cc in rw (← same) (said_by shorter n (length item.body - length (decimal n)) small))
    (counting (counted_body pad item.body n) as_count.alone (long shorter n (length item.body) (length-decimal-le 20 n (omega arith) (omega arith) small)))

-- a count from what is read, or from nothing
does_counted_from : (new : ℕ → ℕ → ℕ) (request : Request) (choice : Choice) (number : ℕ) (item : Item) (o : Option ℕ) → CountsAs request
    → ((n : ℕ) → o ≡ Some n → new n request.number < 2 ^ 64) → Does request number (Some item) (count_from new request choice number item o)
does_counted_from new request choice number item None as_count small = answering reply.NotNumber refl (λ short. as_count.refused)
does_counted_from new request choice number item (Some n) as_count small =
    does_counted_to request number item choice.pad (new n request.number) as_count (small n refl)

-- a count at what is there
does_counted : (new : ℕ → ℕ → ℕ) (request : Request) (choice : Choice) (number : ℕ) (found : Option Item) → CountsAs request
    → ((n : ℕ) → n < 2 ^ 64 → new n request.number < 2 ^ 64) → Does request number found (count new request choice number found)
does_counted new request choice number None as_count small = answering reply.NotFound refl (λ short. as_count.absent)
does_counted new request choice number (Some item) as_count small =
    does_counted_from new request choice number item (read_as choice.read (numeral_of item.body)) as_count
    (λ n e. small n (small_numeral choice.read item.body n e))

-- a sum that wraps has 64 bits
small_sum : (n amount : ℕ) → n < 2 ^ 64 → increment n amount < 2 ^ 64
small_sum n amount small = mod_below (n + amount) (2 ^ 64) (omega arith)

-- and so has a difference that stops at 0
small_rest : (n amount : ℕ) → n < 2 ^ 64 → decrement n amount < 2 ^ 64
small_rest n amount small = omega arith

-- by the verb and what is there
pub does : (v : Verb) (request : Request) (choice : Choice) (number : ℕ) (found : Option Item) → request.verb ≡ v
    → Does request number found (effect_by v request choice number found)
does verb.Set request choice number found e = does_stored request number found (rw e refl) (rw e refl)
does verb.Add request choice number None e = does_stored request number None (rw e refl) (rw e refl)
does verb.Add request choice number (Some item) e = answering reply.NotStored refl (λ short. rw e refl)
does verb.Replace request choice number None e = answering reply.NotStored refl (λ short. rw e refl)
does verb.Replace request choice number (Some item) e = does_stored request number (Some item) (rw e refl) (rw e refl)
does verb.Append request choice number None e = answering reply.NotStored refl (λ short. rw e refl)
does verb.Append request choice number (Some item) e =
    does_joined request number item (item.body ++ request.body) (rw e refl) (rw e refl) (length-append item.body request.body)
does verb.Prepend request choice number None e = answering reply.NotStored refl (λ short. rw e refl)
does verb.Prepend request choice number (Some item) e =
    does_joined request number item (request.body ++ item.body) (rw e refl) (rw e refl) (simp length-append (omega arith))
does verb.Cas request choice number None e = answering reply.NotFound refl (λ short. rw e refl)
does verb.Cas request choice number (Some item) e = does_swapped request number item (eqb item.number request.number) (rw e refl) (rw e refl) (rw e refl)
does verb.Get request choice number None e = answering reply.Miss refl (λ short. rw e refl)
does verb.Get request choice number (Some item) e = answering (reply.Hit item.flags item.body None) refl (λ short. rw e short)
does verb.Gets request choice number None e = answering reply.Miss refl (λ short. rw e refl)
does verb.Gets request choice number (Some item) e = answering (reply.Hit item.flags item.body (Some item.number)) refl (λ short. rw e short)
does verb.Incr request choice number found e =
    does_counted increment request choice number found (record { absent = rw e refl; refused = rw e refl; number = λ n. rw e refl; alone = rw e refl })
    (λ n. small_sum n request.number)
does verb.Decr request choice number found e =
    does_counted decrement request choice number found (record { absent = rw e refl; refused = rw e refl; number = λ n. rw e refl; alone = rw e refl })
    (λ n. small_rest n request.number)
does verb.Delete request choice number None e = answering reply.NotFound refl (λ short. rw e refl)
does verb.Delete request choice number (Some item) e = removing (rw e refl)
does verb.Touch request choice number None e = answering reply.NotFound refl (λ short. rw e refl)
does verb.Touch request choice number (Some item) e = answering reply.Touched refl (λ short. rw e refl)

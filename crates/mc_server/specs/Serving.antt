-- What a client is served over one connection.
use Rattle.std.specs.Prelude.{◌≡◌, ℕ, ◌≤◌, true, List, [], ◌∷◌, ◌++◌, length}
use Rattle.mc_lane.specs.Streams.{StreamState, no_counts, a_failed_read, a_failed_write, an_end, Carries}
use Rattle.mc_lane.specs.declared.stream.Counts.{Counts}
use Rattle.mc_reader.specs.{AskEnds.IsAskUnfinished, Asks.Asking, Asks.Quit, Asks.Refused, Asks.refusal_closes, declared.ask.Refuse.Refuse}
use Rattle.mc_server.specs.{Answers.MayWrite, Answers.MayBegin, Answers.memory_line, Asked.Asks, Asked.GoesOn, Asked.count}
use Rattle.mc_server.specs.{declared.limits.TheConstants.RECEIVED_LIMIT, declared.served.Served.Served, declared.served.Why.Why}
use Rattle.mc_server.specs.declared.served.Why.TheVariants as why

-- the texts that answer what is asked, one after another: however they are cut where they are written
abbrev pub AreAnswered : List Asking → List ℕ → Type 0
AreAnswered [] text = text ≡ []
AreAnswered (asked ∷ others) text = (first rest : List ℕ) × MayWrite asked first × AreAnswered others rest × (text ≡ first ++ rest)

-- the front of the answer to the first of these
abbrev pub IsFrontOfNext : List Asking → List ℕ → Type 0
IsFrontOfNext [] text = text ≡ []
IsFrontOfNext (asked ∷ others) text = MayBegin asked text

-- all that the bytes ask, which are left then, was answered by this text; and `requests` is how many requests were among it
pub record IsAnswered (got rest text : List ℕ) (asked : List Asking) (requests : ℕ) : Type 0 where
  pub asks : Asks got asked rest
  pub answered : AreAnswered asked text
  pub counted : requests ≡ count asked

-- all was answered, and nothing more that is whole was asked
pub record IsServed (got text : List ℕ) (requests : ℕ) : Type 0 where
  pub asked : List Asking
  pub rest : List ℕ
  pub all : IsAnswered got rest text asked requests
  pub on : GoesOn asked
  pub last : IsAskUnfinished rest

-- all was answered, and this was asked last
pub record IsServedTo (last : Asking) (got text : List ℕ) (requests : ℕ) : Type 0 where
  pub before : List Asking
  pub rest : List ℕ
  pub all : IsAnswered got rest text (before ++ last ∷ []) requests

-- the first of what was asked was answered, and perhaps the front of the next answer was put
pub record IsServedFirst (got text : List ℕ) (requests : ℕ) : Type 0 where
  pub asked : List Asking
  pub others : List Asking
  pub rest : List ℕ
  pub first : List ℕ
  pub front : List ℕ
  pub asks : Asks got (asked ++ others) rest
  pub answered : AreAnswered asked first
  pub begun : IsFrontOfNext others front
  pub joined : text ≡ first ++ front
  pub counted : requests ≤ count (asked ++ others)

-- where these bytes were read and these were written, this number of requests was served, and this is why nothing more is read
abbrev pub Serves : List ℕ → List ℕ → ℕ → Why → Type 0
Serves got put requests why.Ended = IsServed got put requests
Serves got put requests why.ReadFailed = IsServed got put requests
Serves got put requests why.TooMuch = (length got ≡ RECEIVED_LIMIT) × IsServed got put requests
Serves got put requests why.Quit = IsServedTo Quit got put requests
Serves got put requests why.Refused = (refuse : Refuse) × (refusal_closes refuse ≡ true) × IsServedTo (Refused refuse) got put requests
Serves got put requests why.Memory = (text : List ℕ) × IsServedFirst got text requests × (put ≡ text ++ memory_line)
Serves got put requests why.WriteFailed =
    (text unsent : List ℕ) × IsServedFirst got text requests × (put ++ unsent ≡ text ++ memory_line)

-- what the stream counts then
abbrev pub counts_of : Why → Counts
counts_of why.Ended = an_end
counts_of why.ReadFailed = a_failed_read
counts_of why.WriteFailed = a_failed_write
counts_of _ = no_counts

-- a connection was served over the stream from one state to the other
pub record ServesStream (before after : StreamState) (result : Served) : Type 0 where
  pub got : List ℕ
  pub put : List ℕ
  pub carries : Carries before after got put (counts_of result.why)
  pub served : Serves got put result.requests result.why

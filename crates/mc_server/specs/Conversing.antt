-- What comes of a piece of what a client sends; private contracts alone cite it.
use Rattle.std.specs.Prelude.{◌≡◌, ◌≢◌, ℕ, ◌+◌, ◌<◌, ◌≤◌, true, Option, Some, None, Result, Ok, Err}
use Rattle.std.specs.Prelude.{List, [], ◌++◌, length, drop, ◌⊎◌, if◌then◌else◌}
use Rattle.mc_lane.specs.Streams.{StreamState, no_counts, Carries}
use Rattle.mc_reader.specs.Asks.{Asking, Quit, Refused, refusal_closes}
use Rattle.mc_reader.specs.{AskEnds.IsAskUnfinished, AskReading.Progress, AskReading.InLine, AskReading.HasRead, declared.ask.Refuse.Refuse}
use Rattle.mc_server.specs.Serving.{IsAnswered, IsServedTo, IsServedFirst, Serves, counts_of}
use Rattle.mc_server.specs.{Answers.memory_line, Asked.GoesOn, Puts.IsPut, Puts.IsBroken, declared.served.Why.Why}
use Rattle.mc_server.specs.declared.served.Why.TheVariants as why

-- why nothing is read after what was asked
abbrev pub why_closed : Asking → Option Why
why_closed Quit = Some why.Quit
why_closed (Refused refuse) = if refusal_closes refuse then Some why.Refused else None
why_closed _ = None

-- a reader that has come so far has read some text
abbrev pub HasReadSome : Progress → Type 0
HasReadSome progress = (text : List ℕ) × HasRead progress text

-- ---- answers that are held back

-- all that the bytes ask, which are left then, was answered, and the answers were put
pub record IsTalk (got rest held left : List ℕ) (before after : StreamState) (requests : ℕ) : Type 0 where
  pub asked : List Asking
  pub text : List ℕ
  pub all : IsAnswered got rest text asked requests
  pub on : GoesOn asked
  pub put : IsPut text held left before after no_counts

-- the bytes were answered to this end, and the answers were put
abbrev pub EndsTalk : List ℕ → List ℕ → List ℕ → StreamState → StreamState → ℕ → Why → Type 0
EndsTalk got held left before after requests why.Quit =
    (text : List ℕ) × IsServedTo Quit got text requests × IsPut text held left before after no_counts
EndsTalk got held left before after requests why.Refused =
    (text : List ℕ) × ((refuse : Refuse) × (refusal_closes refuse ≡ true) × IsServedTo (Refused refuse) got text requests)
    × IsPut text held left before after no_counts
EndsTalk got held left before after requests why.Memory =
    (text : List ℕ) × IsServedFirst got text requests × IsPut text held left before after no_counts
EndsTalk got held left before after requests why.WriteFailed =
    (text : List ℕ) × IsServedFirst got text requests × IsBroken text held before after
EndsTalk got held left before after requests _ = ⊥

-- the same with the requests that were counted before and after
abbrev pub EndsTalkAt : List ℕ → List ℕ → List ℕ → StreamState → StreamState → ℕ → ℕ → Why → Type 0
EndsTalkAt got held left before after n m w = (k : ℕ) × (m ≡ n + k) × EndsTalk got held left before after k w

-- The next request in the bytes, after the text that was read of it: it isn't whole; or it was answered, and this is how many bytes
-- belong to it; or this is the end.
abbrev pub AnswersNext : Progress → Progress → List ℕ → List ℕ → List ℕ → StreamState → StreamState → ℕ → ℕ
    → Result (Option ℕ) Why → Type 0
AnswersNext old new unread held left before after n m (Ok None) =
    (IsPut [] held left before after no_counts × (m ≡ n))
    × ((text : List ℕ) → HasRead old text → HasRead new (text ++ unread) × IsAskUnfinished (text ++ unread))
AnswersNext old new unread held left before after n m (Ok (Some used)) =
    ((new ≡ InLine []) × (0 < used) × (used ≤ length unread))
    × ((text : List ℕ) → HasRead old text
    → (k : ℕ) × (m ≡ n + k) × (k ≤ used) × IsTalk (text ++ unread) (drop used unread) held left before after k)
AnswersNext old new unread held left before after n m (Err w) =
    (text : List ℕ) → HasRead old text → EndsTalkAt (text ++ unread) held left before after n m w

-- all that a piece asks was answered, or this is the end
abbrev pub PutsAnswers : Progress → Progress → List ℕ → List ℕ → List ℕ → StreamState → StreamState → ℕ → ℕ
    → Result (Unit {0}) Why → Type 0
PutsAnswers old new piece held left before after n m (Ok done) =
    (text : List ℕ) → HasRead old text
    → (rest : List ℕ) × (k : ℕ) × (m ≡ n + k) × IsTalk (text ++ piece) rest held left before after k
    × HasRead new rest × IsAskUnfinished rest
PutsAnswers old new piece held left before after n m (Err w) =
    (text : List ℕ) → HasRead old text → EndsTalkAt (text ++ piece) held left before after n m w

-- ---- answers that are written

-- what is written after all answers
abbrev pub last_line : Why → List ℕ
last_line why.Memory = memory_line
last_line _ = []

-- Where no write failed before, what was held back is written, and a last line; or a write fails.
abbrev pub Finishes : Why → List ℕ → StreamState → StreamState → Why → Type 0
Finishes w held before after result =
    ((w ≡ why.WriteFailed) × (result ≡ why.WriteFailed) × (after ≡ before))
    ⊎ (((w ≢ why.WriteFailed) × (result ≡ w) × Carries before after [] (held ++ last_line w) no_counts)
    ⊎ ((w ≢ why.WriteFailed) × (result ≡ why.WriteFailed) × IsBroken (last_line w) held before after))

-- all that was asked of these bytes was answered, and the answers were written
pub record IsWritten (old_text piece rest : List ℕ) (before after : StreamState) (requests : ℕ) : Type 0 where
  pub asked : List Asking
  pub put : List ℕ
  pub all : IsAnswered (old_text ++ piece) rest put asked requests
  pub on : GoesOn asked
  pub last : IsAskUnfinished rest
  pub carries : Carries before after [] put no_counts

-- an end to which a piece may lead
abbrev pub ComesOfPiece : Why → Type 0
ComesOfPiece why.Quit = Unit {0}
ComesOfPiece why.Refused = Unit {0}
ComesOfPiece why.Memory = Unit {0}
ComesOfPiece why.WriteFailed = Unit {0}
ComesOfPiece _ = ⊥

-- the end came with these bytes
pub record IsWrittenTo (got : List ℕ) (before after : StreamState) (requests : ℕ) (w : Why) : Type 0 where
  pub put : List ℕ
  pub comes : ComesOfPiece w
  pub served : Serves got put requests w
  pub carries : Carries before after [] put (counts_of w)

-- what a piece asks was answered, and the answers were written; or this is the end
abbrev pub AnswersPiece : Progress → Progress → List ℕ → StreamState → StreamState → ℕ → ℕ → Result (Unit {0}) Why → Type 0
AnswersPiece old new piece before after n m (Ok done) =
    (text : List ℕ) → HasRead old text
    → (rest : List ℕ) × (k : ℕ) × (m ≡ n + k) × IsWritten text piece rest before after k × HasRead new rest
AnswersPiece old new piece before after n m (Err w) =
    (text : List ℕ) → HasRead old text → (k : ℕ) × (m ≡ n + k) × IsWrittenTo (text ++ piece) before after k w

-- ---- all pieces

-- `received` bytes were read of a connection, all that they ask was answered, and `requests` is how many requests were among it
pub record IsServedSoFar (before after : StreamState) (reader : Progress) (received requests : ℕ) : Type 0 where
  pub got : List ℕ
  pub put : List ℕ
  pub asked : List Asking
  pub rest : List ℕ
  pub len : length got ≡ received
  pub all : IsAnswered got rest put asked requests
  pub on : GoesOn asked
  pub last : IsAskUnfinished rest
  pub read : HasRead reader rest
  pub carries : Carries before after got put no_counts

-- Texts of which no prefix ends.
use Rattle.std.proofs.Common.{◌≡◌, ℕ, ◌≤◌, ◌==◌, Bool, true, false, ◌||◌, Some, Ok, List, [], ◌∷◌, ◌++◌, length}
use Rattle.std.proofs.Common.{refl, sym, ap, ◌∙◌, subst, arith, length-append, append_assoc, append-nil}
use Rattle.mc_protocol.specs.{Lines.Word, declared.reply.Reply.Reply, declared.request.Verb.Verb}
use Rattle.mc_reader.specs.Lines.{CR, LF, has_end, IsLine, IsTooLong, line_says}
use Rattle.mc_reader.specs.Replies.{Outcome, hit_of, LastLineEnds, long_last, last_line, BodyEnds, not_cr, not_lf}
use Rattle.mc_reader.specs.Replies.{after_crlf, BlockEnds, Ends, too_long, one_line, with_block, IsUnfinished}
use Rattle.mc_reader.specs.{Block.IsBlock, Block.IsEnding, Block.block_read, Block.ending_read, Stages.IsStage, Stages.stage_fed, declared.block.Block.Block}
use Rattle.mc_reader.specs.{declared.block.Ending.Ending, declared.said.HitLine.HitLine, declared.said.Said.TheVariants.Hit, declared.stage.Stage.Stage}
use Rattle.mc_reader.specs.declared.block.Ending.TheVariants as ending
use Rattle.mc_reader.specs.declared.stage.Stage.TheVariants as stage
use Rattle.mc_reader.proofs.LineEnds.{one_first_end}
use Rattle.mc_reader.proofs.Unique.{same_front, lined, blocked, not_too_long, not_that_cr, not_that_lf, not_announced, one_hit}

either_way : (b : Bool) → (b || true) ≡ true
either_way true = refl
either_way false = refl

some_same : (x y : List ℕ) → Some x ≡ Some y → x ≡ y
some_same x y e = cc

-- an LF stands in a line with its LF
has_end-line : (line rest : List ℕ) → has_end (line ++ LF ∷ rest) ≡ true
has_end-line [] rest = refl
has_end-line (byte ∷ line) rest = ap (λ b. (byte == LF) || b) (has_end-line line rest) ∙ either_way (byte == LF)

-- a line that isn't ended doesn't begin with one that is
pub not_ended : (text line rest : List ℕ) → IsLine text → text ≡ line ++ LF ∷ rest → ⊥
not_ended text line rest l e = let p = l.one in let q : has_end text ≡ true = rw e (has_end-line line rest) in absurd (cc)

-- nor is the front of it too long
pub not_full : (text front back : List ℕ) → IsLine text → IsTooLong front → front ++ back ≡ text → ⊥
not_full text front back l p e =
    let n = length-append front back in
    let m = ap length e in
    let full = p.full in
    let short = l.short in
    omega arith

-- no prefix of the text ends
abbrev pub Unfinished : (List ℕ → Outcome → Type 0) → List ℕ → Type 0
Unfinished E text = (front back : List ℕ) (outcome : Outcome) → front ++ back ≡ text → E front outcome → ⊥

pub unfinished_last : (hit : Reply) (text : List ℕ) → IsLine text → Unfinished (LastLineEnds hit) text
unfinished_last hit text l front back outcome e (long_last p d) = not_full text front back l p e
unfinished_last hit text l front back outcome e (last_line line m d g) = not_ended text line back l (sym e ∙ lined front line back g)

-- what comes after a body has a byte at least
body_end_some : (hit : Reply) (text : List ℕ) (outcome : Outcome) → BodyEnds hit text outcome → 1 ≤ length text
body_end_some hit text outcome (not_cr c p d e) = let n = ap length d in omega arith
body_end_some hit text outcome (not_lf c p d e) = let n = ap length d in omega arith
body_end_some hit text outcome (after_crlf last l d) = let n = ap length d in omega arith

unfinished_cr : (hit : Reply) → Unfinished (BodyEnds hit) (CR ∷ [])
unfinished_cr hit front back outcome e (not_cr c p d g) =
    not_that_cr c p (let all : c ∷ back ≡ CR ∷ [] = sym (ap (λ u. u ++ back) d) ∙ e in let same : c ≡ CR = cc in same)
unfinished_cr hit front back outcome e (not_lf c p d g) =
    let n = ap length d in
    let m = ap length e in
    let k = length-append front back in
    omega arith
unfinished_cr hit front back outcome e (after_crlf last l d) =
    let n = ap length d in
    let m = ap length e in
    let k = length-append front back in
    omega arith

unfinished_crlf : (hit : Reply) (start : List ℕ) → IsLine start → Unfinished (BodyEnds hit) (CR ∷ LF ∷ start)
unfinished_crlf hit start l front back outcome e (not_cr c p d g) =
    not_that_cr c p (let all : c ∷ back ≡ CR ∷ LF ∷ start = sym (ap (λ u. u ++ back) d) ∙ e in let same : c ≡ CR = cc in same)
unfinished_crlf hit start l front back outcome e (not_lf c p d g) =
    not_that_lf c p (let all : CR ∷ c ∷ back ≡ CR ∷ LF ∷ start = sym (ap (λ u. u ++ back) d) ∙ e in let same : c ≡ LF = cc in same)
unfinished_crlf hit start l front back outcome e (after_crlf last m d) =
    unfinished_last hit start l last back outcome
    (let all : CR ∷ LF ∷ (last ++ back) ≡ CR ∷ LF ∷ start = sym (ap (λ u. u ++ back) d)
    ∙ e in let same : last ++ back ≡ start = cc in same) m

-- a body that isn't longer than its line says, and nothing after it
unfinished_body : (line : HitLine) (body : List ℕ) → length body ≤ line.body_len → Unfinished (BlockEnds line) body
unfinished_body line body short front back outcome e p =
    let some = body_end_some (hit_of line p.body) p.rest outcome p.ends in
    let n = ap length e in
    let m = length-append front back in
    let k = ap length p.cut in
    let j = length-append p.body p.rest in
    let i = p.whole in
    omega arith

-- a whole body, and after it what doesn't end
unfinished_rest : (line : HitLine) (body rest : List ℕ) → length body ≡ line.body_len
    → Unfinished (BodyEnds (hit_of line body)) rest → Unfinished (BlockEnds line) (body ++ rest)
unfinished_rest line body rest whole h front back outcome e p =
    let all : p.body ++ (p.rest ++ back) ≡ body ++ rest = sym (ap (λ u. u ++ back) p.cut ∙ append_assoc p.body p.rest back) ∙ e in
    let both = same_front p.body body (p.rest ++ back) rest (p.whole ∙ sym whole) all in
    h p.rest back outcome both.1 (subst (λ u. BodyEnds (hit_of line u) p.rest outcome) both.0 p.ends)

unfinished_ending : (line : HitLine) (body : List ℕ) (e : Ending) → IsEnding line.body_len (length body) e
    → Unfinished (BlockEnds line) (body ++ ending_read e)
unfinished_ending line body ending.Unread h = subst (Unfinished (BlockEnds line)) (sym (append-nil body)) (unfinished_body line body h)
unfinished_ending line body ending.Cr h = unfinished_rest line body (CR ∷ []) h (unfinished_cr (hit_of line body))
unfinished_ending line body (ending.Line start) h =
    unfinished_rest line body (CR ∷ LF ∷ start.items) h.0 (unfinished_crlf (hit_of line body) start.items h.1)

pub unfinished_block : (b : Block) → IsBlock b → Unfinished (BlockEnds b.hit) (block_read b)
unfinished_block b h = unfinished_ending b.hit b.body.items b.ending h

-- ---- the whole reply

pub unfinished_line : (verb : Verb) (key : Word) (text : List ℕ) → IsLine text → Unfinished (Ends verb key) text
unfinished_line verb key text l front back outcome e (too_long p d) = not_full text front back l p e
unfinished_line verb key text l front back outcome e (one_line line m d g) = not_ended text line back l (sym e ∙ lined front line back g)
unfinished_line verb key text l front back outcome e (with_block line block hit m d n g) =
    not_ended text line (block ++ back) l (sym e ∙ blocked front line block back g)

pub unfinished_hit : (verb : Verb) (key : Word) (line block : List ℕ) (hit : HitLine) → IsLine line
    → line_says verb key line ≡ Ok (Hit hit) → Unfinished (BlockEnds hit) block → Unfinished (Ends verb key) (line ++ LF ∷ block)
unfinished_hit verb key line block hit l says h front back outcome e (too_long p d) = not_too_long front line back block p l e
unfinished_hit verb key line block hit l says h front back outcome e (one_line other m d g) =
    let same = (one_first_end other line back block m.one l.one (sym (lined front other back g) ∙ e)).0 in
    not_announced outcome hit (sym d ∙ ap (line_says verb key) same ∙ says)
unfinished_hit verb key line block hit l says h front back outcome e (with_block other next found m d n g) =
    let both = one_first_end other line (next ++ back) block m.one l.one (sym (blocked front other next back g) ∙ e) in
    let same : found ≡ hit = one_hit found hit (line_says verb key other) (line_says verb key line) d says
    (ap (line_says verb key) both.0) in
    h next back outcome both.1 (subst (λ u. BlockEnds u next outcome) same n)

-- nothing that was read at a stage ends
pub unfinished_fed : (verb : Verb) (key : Word) (s : Stage) (text : List ℕ) → IsStage verb key s → stage_fed s ≡ Some text
    → IsUnfinished verb key text
unfinished_fed verb key (stage.Line start) text h e = subst (IsUnfinished verb key) (some_same _ _ e)
    (unfinished_line verb key start.items h)
unfinished_fed verb key (stage.Block line block) text h e =
    subst (IsUnfinished verb key) (some_same _ _ e)
    (unfinished_hit verb key line.items (block_read block) block.hit h.0 h.1 (unfinished_block block h.2))
unfinished_fed verb key stage.Over text h e = absurd (cc)

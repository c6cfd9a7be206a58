-- Texts of requests of which no prefix ends.
use Rattle.std.proofs.Common.{◌≡◌, ℕ, ◌+◌, ◌<◌, ◌≤◌, List, [], ◌∷◌, ◌++◌, length, sym, ap, ◌∙◌, subst, arith, length-append, append_assoc}
use mathlib.Core.Logic.{inl, inr}
use Rattle.mc_reader.specs.AskEnds.{StoreEnds, not_cr, not_lf, crlf, ChunkEnds, too_long, one_line, with_block, with_skipped, IsAskUnfinished}
use Rattle.mc_reader.specs.AskLines.{LineSays, Whole, Block, Skips, line_says}
use Rattle.mc_reader.specs.AskReading.{Progress, InLine, InBlock, Skipping, Over, HasRead, IsBlockFront}
use Rattle.mc_reader.specs.{Asks.Asking, Lines.CR, Lines.LF, Lines.IsLine, declared.ask.Refuse.Refuse, declared.ask_said.StoreLine.StoreLine}
use Rattle.mc_reader.proofs.Unique.{same_front, lined, blocked, not_too_long, not_that_cr}
use Rattle.mc_reader.proofs.{LineEnds.one_first_end, Unfinished.not_ended, Unfinished.not_full}

-- ---- what a line says is one thing

pub whole_not_block : (a b : LineSays) (asked : Asking) (store : StoreLine) → a ≡ Whole asked → b ≡ Block store → a ≡ b → ⊥
whole_not_block a b asked store p q h = absurd (cc)

pub whole_not_skips : (a b : LineSays) (asked : Asking) (refuse : Refuse) (n : ℕ) → a ≡ Whole asked → b ≡ Skips refuse n → a ≡ b → ⊥
whole_not_skips a b asked refuse n p q h = absurd (cc)

pub block_not_skips : (a b : LineSays) (store : StoreLine) (refuse : Refuse) (n : ℕ) → a ≡ Block store → b ≡ Skips refuse n → a ≡ b → ⊥
block_not_skips a b store refuse n p q h = absurd (cc)

pub one_store : (a b : LineSays) (store other : StoreLine) → a ≡ Block store → b ≡ Block other → a ≡ b → store ≡ other
one_store a b store other p q h = cc

pub one_count : (a b : LineSays) (refuse other : Refuse) (n m : ℕ) → a ≡ Skips refuse n → b ≡ Skips other m → a ≡ b → n ≡ m
one_count a b refuse other n m p q h = cc

-- ---- lines

unfinished_line : (text : List ℕ) → IsLine text → IsAskUnfinished text
unfinished_line text l front back asked e (too_long p d) = not_full text front back l p e
unfinished_line text l front back asked e (one_line line m d g) = not_ended text line back l (sym e ∙ lined front line back g)
unfinished_line text l front back asked e (with_block line chunk store m d n g) =
    not_ended text line (chunk ++ back) l (sym e ∙ blocked front line chunk back g)
unfinished_line text l front back asked e (with_skipped line skipped refuse m d n g) =
    not_ended text line (skipped ++ back) l (sym e ∙ blocked front line skipped back g)

-- ---- blocks

store_end_some : (line : StoreLine) (body text : List ℕ) (asked : Asking) → StoreEnds line body text asked → 1 ≤ length text
store_end_some line body text asked (not_cr c p d e) = let n = ap length d in omega arith
store_end_some line body text asked (not_lf c p d e) = let n = ap length d in omega arith
store_end_some line body text asked (crlf d e) = let n = ap length d in omega arith

unfinished_cr : (line : StoreLine) (body text back : List ℕ) (asked : Asking) → text ++ back ≡ CR ∷ [] → StoreEnds line body text asked → ⊥
unfinished_cr line body text back asked e (not_cr c p d g) =
    not_that_cr c p (let all : c ∷ back ≡ CR ∷ [] = sym (ap (λ u. u ++ back) d) ∙ e in let same : c ≡ CR = cc in same)
unfinished_cr line body text back asked e (not_lf c p d g) =
    let n = ap length d in
    let m = ap length e in
    let k = length-append text back in
    omega arith
unfinished_cr line body text back asked e (crlf d g) =
    let n = ap length d in
    let m = ap length e in
    let k = length-append text back in
    omega arith

unfinished_chunk : (line : StoreLine) (part : List ℕ) → IsBlockFront line part → (front back : List ℕ) (asked : Asking)
    → front ++ back ≡ part → ChunkEnds line front asked → ⊥
unfinished_chunk line part (inl short) front back asked e p =
    let some = store_end_some line p.body p.rest asked p.ends in
    let n = ap length e in
    let m = length-append front back in
    let k = ap length p.cut in
    let j = length-append p.body p.rest in
    let i = p.whole in
    omega arith
unfinished_chunk line part (inr h) front back asked e p =
    let all : p.body ++ (p.rest ++ back) ≡ h.0 ++ CR ∷ [] =
    sym (ap (λ u. u ++ back) p.cut ∙ append_assoc p.body p.rest back) ∙ e ∙ h.2 in
    let both = same_front p.body h.0 (p.rest ++ back) (CR ∷ []) (p.whole ∙ sym h.1) all in
    unfinished_cr line p.body p.rest back asked both.1 p.ends

-- ---- requests

unfinished_store : (line part : List ℕ) (store : StoreLine) → IsLine line → line_says line ≡ Block store → IsBlockFront store part
    → IsAskUnfinished (line ++ LF ∷ part)
unfinished_store line part store l says h front back asked e (too_long p d) = not_too_long front line back part p l e
unfinished_store line part store l says h front back asked e (one_line other m d g) =
    let same = (one_first_end other line back part m.one l.one (sym (lined front other back g) ∙ e)).0 in
    whole_not_block (line_says other) (line_says line) asked store d says (ap line_says same)
unfinished_store line part store l says h front back asked e (with_block other next found m d n g) =
    let both = one_first_end other line (next ++ back) part m.one l.one (sym (blocked front other next back g) ∙ e) in
    let same : found ≡ store = one_store (line_says other) (line_says line) found store d says (ap line_says both.0) in
    unfinished_chunk store part h next back asked both.1 (subst (λ u. ChunkEnds u next asked) same n)
unfinished_store line part store l says h front back asked e (with_skipped other skipped refuse m d n g) =
    let same = (one_first_end other line (skipped ++ back) part m.one l.one (sym (blocked front other skipped back g) ∙ e)).0 in
    block_not_skips (line_says line) (line_says other) store refuse (length skipped) says d (sym (ap line_says same))

unfinished_skip : (line part : List ℕ) (refuse : Refuse) (left : ℕ) → IsLine line → 0 < left
    → line_says line ≡ Skips refuse (length part + left) → IsAskUnfinished (line ++ LF ∷ part)
unfinished_skip line part refuse left l some says front back asked e (too_long p d) = not_too_long front line back part p l e
unfinished_skip line part refuse left l some says front back asked e (one_line other m d g) =
    let same = (one_first_end other line back part m.one l.one (sym (lined front other back g) ∙ e)).0 in
    whole_not_skips (line_says other) (line_says line) asked refuse (length part + left) d says (ap line_says same)
unfinished_skip line part refuse left l some says front back asked e (with_block other next found m d n g) =
    let same = (one_first_end other line (next ++ back) part m.one l.one (sym (blocked front other next back g) ∙ e)).0 in
    block_not_skips (line_says other) (line_says line) found refuse (length part + left) d says (ap line_says same)
unfinished_skip line part refuse left l some says front back asked e (with_skipped other skipped kind m d n g) =
    let both = one_first_end other line (skipped ++ back) part m.one l.one (sym (blocked front other skipped back g) ∙ e) in
    let count = one_count (line_says other) (line_says line) kind refuse (length skipped) (length part + left) d says (ap line_says both.0) in
    let j = length-append skipped back in
    let k = ap length both.1 in
    omega arith

-- nothing that was read ends
pub unfinished_read : (old : Progress) (text : List ℕ) → HasRead old text → IsAskUnfinished text
unfinished_read (InLine start) text h = subst IsAskUnfinished (sym h.1) (unfinished_line start h.0)
unfinished_read (InBlock store part) text h =
    subst IsAskUnfinished (sym h.cut) (unfinished_store h.line part store h.whole h.says h.front)
unfinished_read (Skipping refuse left) text h =
    subst IsAskUnfinished (sym h.cut) (unfinished_skip h.line h.part refuse left h.whole h.some h.says)
unfinished_read Over text h = absurd h

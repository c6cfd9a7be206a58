-- A text of a request ends in one way, and where it ends no longer one ends.
use Rattle.std.proofs.Common.{◌≡◌, ℕ, false, List, [], ◌∷◌, ◌++◌, length, sym, ap, ap₂, ◌∙◌, subst, append_assoc}
use Rattle.mc_reader.specs.AskEnds.{StoreEnds, not_cr, not_lf, crlf, ChunkEnds, too_long, one_line, with_block, with_skipped}
use Rattle.mc_reader.specs.{AskLaws.OneAsk, AskLines.LineSays, AskLines.Whole, AskLines.Skips, AskLines.line_says, Asks.Asking, Asks.Refused, Lines.CR}
use Rattle.mc_reader.specs.{Lines.LF, Lines.has_end, declared.ask.Refuse.Refuse, declared.ask_said.StoreLine.StoreLine}
use Rattle.mc_reader.proofs.AskUnfinished.{whole_not_block, whole_not_skips, block_not_skips, one_store, one_count}
use Rattle.mc_reader.proofs.LineEnds.{one_first_end}
use Rattle.mc_reader.proofs.Unique.{same_front, lined, blocked, not_too_long, not_that_cr, not_that_lf}

one_whole : (a b : LineSays) (x y : Asking) → a ≡ Whole x → b ≡ Whole y → a ≡ b → x ≡ y
one_whole a b x y p q h = cc

one_refuse : (a b : LineSays) (refuse other : Refuse) (n m : ℕ) → a ≡ Skips refuse n → b ≡ Skips other m → a ≡ b → refuse ≡ other
one_refuse a b refuse other n m p q h = cc

-- E's texts end in one way, and no proper prefix of one ends
abbrev EndsOnce : (List ℕ → Asking → Type 0) → Type 0
EndsOnce E = (s t x y : List ℕ) (a b : Asking) → E s a → E t b → s ++ x ≡ t ++ y → (s ≡ t) × (a ≡ b)

-- the first bytes of two texts that begin the same bytes
heads : (s t x y front back : List ℕ) → s ≡ front → t ≡ back → s ++ x ≡ t ++ y → front ++ x ≡ back ++ y
heads s t x y front back d f h = sym (ap (λ u. u ++ x) d) ∙ h ∙ ap (λ u. u ++ y) f

one_after_body : (line : StoreLine) (body : List ℕ) → EndsOnce (StoreEnds line body)
one_after_body line body s t x y a b (not_cr c p d e) (not_cr k q f g) h =
    let all : c ∷ x ≡ k ∷ y = heads s t x y (c ∷ []) (k ∷ []) d f h in
    let same : c ≡ k = cc in
    (d ∙ ap (λ u. u ∷ []) same ∙ sym f, e ∙ sym g)
one_after_body line body s t x y a b (not_cr c p d e) (not_lf k q f g) h =
    let all : c ∷ x ≡ CR ∷ k ∷ y = heads s t x y (c ∷ []) (CR ∷ k ∷ []) d f h in
    absurd (not_that_cr c p (let same : c ≡ CR = cc in same))
one_after_body line body s t x y a b (not_cr c p d e) (crlf f g) h =
    let all : c ∷ x ≡ CR ∷ LF ∷ y = heads s t x y (c ∷ []) (CR ∷ LF ∷ []) d f h in
    absurd (not_that_cr c p (let same : c ≡ CR = cc in same))
one_after_body line body s t x y a b (not_lf c p d e) (not_cr k q f g) h =
    let all : CR ∷ c ∷ x ≡ k ∷ y = heads s t x y (CR ∷ c ∷ []) (k ∷ []) d f h in
    absurd (not_that_cr k q (let same : k ≡ CR = cc in same))
one_after_body line body s t x y a b (not_lf c p d e) (not_lf k q f g) h =
    let all : CR ∷ c ∷ x ≡ CR ∷ k ∷ y = heads s t x y (CR ∷ c ∷ []) (CR ∷ k ∷ []) d f h in
    let same : c ≡ k = cc in
    (d ∙ ap (λ u. CR ∷ u ∷ []) same ∙ sym f, e ∙ sym g)
one_after_body line body s t x y a b (not_lf c p d e) (crlf f g) h =
    let all : CR ∷ c ∷ x ≡ CR ∷ LF ∷ y = heads s t x y (CR ∷ c ∷ []) (CR ∷ LF ∷ []) d f h in
    absurd (not_that_lf c p (let same : c ≡ LF = cc in same))
one_after_body line body s t x y a b (crlf d e) (not_cr k q f g) h =
    let all : CR ∷ LF ∷ x ≡ k ∷ y = heads s t x y (CR ∷ LF ∷ []) (k ∷ []) d f h in
    absurd (not_that_cr k q (let same : k ≡ CR = cc in same))
one_after_body line body s t x y a b (crlf d e) (not_lf k q f g) h =
    let all : CR ∷ LF ∷ x ≡ CR ∷ k ∷ y = heads s t x y (CR ∷ LF ∷ []) (CR ∷ k ∷ []) d f h in
    absurd (not_that_lf k q (let same : k ≡ LF = cc in same))
one_after_body line body s t x y a b (crlf d e) (crlf f g) h = (d ∙ sym f, e ∙ sym g)

one_chunk : (line : StoreLine) → EndsOnce (ChunkEnds line)
one_chunk line s t x y a b p q h =
    let all : p.body ++ (p.rest ++ x) ≡ q.body ++ (q.rest ++ y) =
    sym (ap (λ u. u ++ x) p.cut ∙ append_assoc p.body p.rest x) ∙ h ∙ ap (λ u. u ++ y) q.cut ∙ append_assoc q.body q.rest y in
    let front = same_front p.body q.body (p.rest ++ x) (q.rest ++ y) (p.whole ∙ sym q.whole) all in
    let ends : StoreEnds line p.body q.rest b = subst (λ u. StoreEnds line u q.rest b) (sym front.0) q.ends in
    let both = one_after_body line p.body p.rest q.rest x y a b p.ends ends front.1 in
    (p.cut ∙ ap₂ (λ u v. u ++ v) front.0 both.0 ∙ sym q.cut, both.1)

-- ---- requests

-- the first lines of two texts that begin the same bytes are one, and what follows them is the same
one_first_line : (line other x y : List ℕ) → has_end line ≡ false → has_end other ≡ false → line ++ LF ∷ x ≡ other ++ LF ∷ y
    → (line_says line ≡ line_says other) × (line ≡ other) × (x ≡ y)
one_first_line line other x y p q h =
    let both = one_first_end line other x y p q h in
    (ap line_says both.0, both.0, both.1)

pub one_ask : OneAsk
one_ask s t x y a b (too_long p e) (too_long q f) h = ((same_front s t x y (p.full ∙ sym q.full) h).0, e ∙ sym f)
one_ask s t x y a b (too_long p e) (one_line line l f g) h = absurd (not_too_long s line x y p l (h ∙ lined t line y g))
one_ask s t x y a b (too_long p e) (with_block line chunk store l f m g) h =
    absurd (not_too_long s line x (chunk ++ y) p l (h ∙ blocked t line chunk y g))
one_ask s t x y a b (too_long p e) (with_skipped line skipped refuse l f m g) h =
    absurd (not_too_long s line x (skipped ++ y) p l (h ∙ blocked t line skipped y g))
one_ask s t x y a b (one_line line l e d) (too_long q f) h = absurd (not_too_long t line y x q l (sym h ∙ lined s line x d))
one_ask s t x y a b (one_line line l e d) (one_line other m f g) h =
    let same = one_first_line line other x y l.one m.one (sym (lined s line x d) ∙ h ∙ lined t other y g) in
    (d ∙ ap (λ u. u ++ LF ∷ []) same.1 ∙ sym g, one_whole (line_says line) (line_says other) a b e f same.0)
one_ask s t x y a b (one_line line l e d) (with_block other chunk store m f n g) h =
    let same = one_first_line line other x (chunk ++ y) l.one m.one (sym (lined s line x d) ∙ h ∙ blocked t other chunk y g) in
    absurd (whole_not_block (line_says line) (line_says other) a store e f same.0)
one_ask s t x y a b (one_line line l e d) (with_skipped other skipped refuse m f n g) h =
    let same = one_first_line line other x (skipped ++ y) l.one m.one (sym (lined s line x d) ∙ h ∙ blocked t other skipped y g) in
    absurd (whole_not_skips (line_says line) (line_says other) a refuse (length skipped) e f same.0)
one_ask s t x y a b (with_block line chunk store l e n d) (too_long q f) h =
    absurd (not_too_long t line y (chunk ++ x) q l (sym h ∙ blocked s line chunk x d))
one_ask s t x y a b (with_block line chunk store l e n d) (one_line other m f g) h =
    let same = one_first_line line other (chunk ++ x) y l.one m.one (sym (blocked s line chunk x d) ∙ h ∙ lined t other y g) in
    absurd (whole_not_block (line_says other) (line_says line) b store f e (sym same.0))
one_ask s t x y a b (with_block line chunk store l e n d) (with_block other next found m f o g) h =
    let both = one_first_line line other (chunk ++ x) (next ++ y) l.one m.one
    (sym (blocked s line chunk x d) ∙ h ∙ blocked t other next y g) in
    let same : store ≡ found = one_store (line_says line) (line_says other) store found e f both.0 in
    let ends : ChunkEnds store next b = subst (λ u. ChunkEnds u next b) (sym same) o in
    let chunks = one_chunk store chunk next x y a b n ends both.2 in
    (d ∙ ap₂ (λ u v. u ++ LF ∷ v) both.1 chunks.0 ∙ sym g, chunks.1)
one_ask s t x y a b (with_block line chunk store l e n d) (with_skipped other skipped refuse m f o g) h =
    let same = one_first_line line other (chunk ++ x) (skipped ++ y) l.one m.one
    (sym (blocked s line chunk x d) ∙ h ∙ blocked t other skipped y g) in
    absurd (block_not_skips (line_says line) (line_says other) store refuse (length skipped) e f same.0)
one_ask s t x y a b (with_skipped line skipped refuse l e n d) (too_long q f) h =
    absurd (not_too_long t line y (skipped ++ x) q l (sym h ∙ blocked s line skipped x d))
one_ask s t x y a b (with_skipped line skipped refuse l e n d) (one_line other m f g) h =
    let same = one_first_line line other (skipped ++ x) y l.one m.one (sym (blocked s line skipped x d) ∙ h ∙ lined t other y g) in
    absurd (whole_not_skips (line_says other) (line_says line) b refuse (length skipped) f e (sym same.0))
one_ask s t x y a b (with_skipped line skipped refuse l e n d) (with_block other next store m f o g) h =
    let same = one_first_line line other (skipped ++ x) (next ++ y) l.one m.one
    (sym (blocked s line skipped x d) ∙ h ∙ blocked t other next y g) in
    absurd (block_not_skips (line_says other) (line_says line) store refuse (length skipped) f e (sym same.0))
one_ask s t x y a b (with_skipped line skipped refuse l e n d) (with_skipped other left kind m f o g) h =
    let both = one_first_line line other (skipped ++ x) (left ++ y) l.one m.one
    (sym (blocked s line skipped x d) ∙ h ∙ blocked t other left y g) in
    let count = one_count (line_says line) (line_says other) refuse kind (length skipped) (length left) e f both.0 in
    let kinds = one_refuse (line_says line) (line_says other) refuse kind (length skipped) (length left) e f both.0 in
    let rest = (same_front skipped left x y count both.2).0 in
    (d ∙ ap₂ (λ u v. u ++ LF ∷ v) both.1 rest ∙ sym g, n ∙ ap Refused kinds ∙ sym o)

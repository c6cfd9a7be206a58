-- A text ends in one way, and where it ends no longer one ends.
use Rattle.std.proofs.Common.{◌≡◌, ℕ, ◌==◌, false, Result, Ok, Err, List, [], ◌∷◌, ◌++◌, length, refl, sym, ap, ap₂, ◌∙◌, subst, arith, append_assoc}
use Rattle.mc_protocol.specs.{Lines.Word, declared.reply.Reply.Reply, declared.request.Verb.Verb}
use Rattle.mc_reader.specs.Replies.{Outcome, said_whole, hit_of, LastLineEnds, long_last, last_line, BodyEnds, not_cr}
use Rattle.mc_reader.specs.Replies.{not_lf, after_crlf, BlockEnds, Ends, too_long, one_line, with_block}
use Rattle.mc_reader.specs.{Laws.OneReply, Lines.CR, Lines.LF, Lines.IsLine, Lines.IsTooLong, Lines.line_says, Lines.end_says}
use Rattle.mc_reader.specs.{declared.fault.ReadFault.ReadFault, declared.said.HitLine.HitLine, declared.said.Said.Said, declared.said.Said.TheVariants.Hit}
use Rattle.mc_reader.proofs.LineEnds.{one_first_end, ends_before}

-- fronts of one length of the same bytes are equal, and so is what follows them
pub same_front : (a b x y : List ℕ) → length a ≡ length b → a ++ x ≡ b ++ y → (a ≡ b) × (x ≡ y)
same_front [] [] x y n h = (refl, h)
same_front [] (d ∷ b) x y n h = absurd (omega arith)
same_front (c ∷ a) [] x y n h = absurd (omega arith)
same_front (c ∷ a) (d ∷ b) x y n h =
    let first : c ≡ d = cc in
    let rest : a ++ x ≡ b ++ y = cc in
    let both = same_front a b x y (omega arith) rest in
    (ap (λ t. c ∷ t) both.0 ∙ ap (λ t. t ∷ b) first, both.1)

-- a line with its LF, and what follows it
pub lined : (s line x : List ℕ) → s ≡ line ++ LF ∷ [] → s ++ x ≡ line ++ LF ∷ x
lined s line x e = ap (λ t. t ++ x) e ∙ append_assoc line (LF ∷ []) x

pub blocked : (s line block x : List ℕ) → s ≡ line ++ LF ∷ block → s ++ x ≡ line ++ LF ∷ (block ++ x)
blocked s line block x e = ap (λ t. t ++ x) e ∙ append_assoc line (LF ∷ block) x

-- a line that ends isn't too long
pub not_too_long : (s line x y : List ℕ) → IsTooLong s → IsLine line → s ++ x ≡ line ++ LF ∷ y → ⊥
not_too_long s line x y p l h =
    let less = ends_before s line x y p.one h in
    let full = p.full in
    let short = l.short in
    omega arith

-- E's texts end in one way, and no proper prefix of one ends
abbrev pub EndsOnce : (List ℕ → Outcome → Type 0) → Type 0
EndsOnce E = (s t x y : List ℕ) (a b : Outcome) → E s a → E t b → s ++ x ≡ t ++ y → (s ≡ t) × (a ≡ b)

pub one_last_line : (hit : Reply) → EndsOnce (LastLineEnds hit)
one_last_line hit s t x y a b (long_last p e) (long_last q f) h = ((same_front s t x y (p.full ∙ sym q.full) h).0, e ∙ sym f)
one_last_line hit s t x y a b (long_last p e) (last_line line l f g) h = absurd (not_too_long s line x y p l (h ∙ lined t line y g))
one_last_line hit s t x y a b (last_line line l e d) (long_last q f) h = absurd (not_too_long t line y x q l (sym h ∙ lined s line x d))
one_last_line hit s t x y a b (last_line line l e d) (last_line other m f g) h =
    let same = (one_first_end line other x y l.one m.one (sym (lined s line x d) ∙ h ∙ lined t other y g)).0 in
    (d ∙ ap (λ u. u ++ LF ∷ []) same ∙ sym g, e ∙ ap (end_says hit) same ∙ sym f)

pub not_that_cr : (byte : ℕ) → (byte == CR) ≡ false → byte ≡ CR → ⊥
not_that_cr byte h e = absurd (let g : (CR == CR) ≡ false = subst (λ b. (b == CR) ≡ false) e h in cc)

pub not_that_lf : (byte : ℕ) → (byte == LF) ≡ false → byte ≡ LF → ⊥
not_that_lf byte h e = absurd (let g : (LF == LF) ≡ false = subst (λ b. (b == LF) ≡ false) e h in cc)

pub one_after_body : (hit : Reply) → EndsOnce (BodyEnds hit)
one_after_body hit s t x y a b (not_cr c p d e) (not_cr k q f g) h =
    let all : c ∷ x ≡ k ∷ y = sym (ap (λ u. u ++ x) d) ∙ h ∙ ap (λ u. u ++ y) f in
    let same : c ≡ k = cc in
    (d ∙ ap (λ u. u ∷ []) same ∙ sym f, e ∙ sym g)
one_after_body hit s t x y a b (not_cr c p d e) (not_lf k q f g) h =
    let all : c ∷ x ≡ CR ∷ k ∷ y = sym (ap (λ u. u ++ x) d) ∙ h ∙ ap (λ u. u ++ y) f in
    absurd (not_that_cr c p (let same : c ≡ CR = cc in same))
one_after_body hit s t x y a b (not_cr c p d e) (after_crlf last l f) h =
    let all : c ∷ x ≡ CR ∷ LF ∷ (last ++ y) = sym (ap (λ u. u ++ x) d) ∙ h ∙ ap (λ u. u ++ y) f in
    absurd (not_that_cr c p (let same : c ≡ CR = cc in same))
one_after_body hit s t x y a b (not_lf c p d e) (not_cr k q f g) h =
    let all : CR ∷ c ∷ x ≡ k ∷ y = sym (ap (λ u. u ++ x) d) ∙ h ∙ ap (λ u. u ++ y) f in
    absurd (not_that_cr k q (let same : k ≡ CR = cc in same))
one_after_body hit s t x y a b (not_lf c p d e) (not_lf k q f g) h =
    let all : CR ∷ c ∷ x ≡ CR ∷ k ∷ y = sym (ap (λ u. u ++ x) d) ∙ h ∙ ap (λ u. u ++ y) f in
    let same : c ≡ k = cc in
    (d ∙ ap (λ u. CR ∷ u ∷ []) same ∙ sym f, e ∙ sym g)
one_after_body hit s t x y a b (not_lf c p d e) (after_crlf last l f) h =
    let all : CR ∷ c ∷ x ≡ CR ∷ LF ∷ (last ++ y) = sym (ap (λ u. u ++ x) d) ∙ h ∙ ap (λ u. u ++ y) f in
    absurd (not_that_lf c p (let same : c ≡ LF = cc in same))
one_after_body hit s t x y a b (after_crlf last l d) (not_cr k q f g) h =
    let all : CR ∷ LF ∷ (last ++ x) ≡ k ∷ y = sym (ap (λ u. u ++ x) d) ∙ h ∙ ap (λ u. u ++ y) f in
    absurd (not_that_cr k q (let same : k ≡ CR = cc in same))
one_after_body hit s t x y a b (after_crlf last l d) (not_lf k q f g) h =
    let all : CR ∷ LF ∷ (last ++ x) ≡ CR ∷ k ∷ y = sym (ap (λ u. u ++ x) d) ∙ h ∙ ap (λ u. u ++ y) f in
    absurd (not_that_lf k q (let same : k ≡ LF = cc in same))
one_after_body hit s t x y a b (after_crlf last l d) (after_crlf other m f) h =
    let all : CR ∷ LF ∷ (last ++ x) ≡ CR ∷ LF ∷ (other ++ y) = sym (ap (λ u. u ++ x) d) ∙ h ∙ ap (λ u. u ++ y) f in
    let rest : last ++ x ≡ other ++ y = cc in
    let both = one_last_line hit last other x y a b l m rest in
    (d ∙ ap (λ u. CR ∷ LF ∷ u) both.0 ∙ sym f, both.1)

pub one_block : (line : HitLine) → EndsOnce (BlockEnds line)
one_block line s t x y a b p q h =
    let all : p.body ++ (p.rest ++ x) ≡ q.body ++ (q.rest ++ y) =
    sym (ap (λ u. u ++ x) p.cut ∙ append_assoc p.body p.rest x) ∙ h ∙ ap (λ u. u ++ y) q.cut ∙ append_assoc q.body q.rest y in
    let front = same_front p.body q.body (p.rest ++ x) (q.rest ++ y) (p.whole ∙ sym q.whole) all in
    let ends : BodyEnds (hit_of line p.body) q.rest b = subst (λ u. BodyEnds (hit_of line u) q.rest b) (sym front.0) q.ends in
    let both = one_after_body (hit_of line p.body) p.rest q.rest x y a b p.ends ends front.1 in
    (p.cut ∙ ap₂ (λ u v. u ++ v) front.0 both.0 ∙ sym q.cut, both.1)

-- ---- the whole reply

pub one_outcome : (a b : Outcome) → said_whole a ≡ said_whole b → a ≡ b
one_outcome (Ok r) (Ok s) h = let e : r ≡ s = cc in ap Ok e
one_outcome (Ok r) (Err f) h = absurd (cc)
one_outcome (Err e) (Ok s) h = absurd (cc)
one_outcome (Err e) (Err f) h = let same : e ≡ f = cc in ap Err same

pub not_announced : (a : Outcome) (hit : HitLine) → said_whole a ≡ Ok (Hit hit) → ⊥
not_announced (Ok r) hit h = absurd (cc)
not_announced (Err e) hit h = absurd (cc)

pub one_hit : (hit other : HitLine) (a b : Result Said ReadFault) → a ≡ Ok (Hit hit) → b ≡ Ok (Hit other) → a ≡ b → hit ≡ other
one_hit hit other a b p q h = cc

pub one_ending : (verb : Verb) (key : Word) → EndsOnce (Ends verb key)
one_ending verb key s t x y a b (too_long p e) (too_long q f) h = ((same_front s t x y (p.full ∙ sym q.full) h).0, e ∙ sym f)
one_ending verb key s t x y a b (too_long p e) (one_line line l f g) h = absurd (not_too_long s line x y p l (h ∙ lined t line y g))
one_ending verb key s t x y a b (too_long p e) (with_block line block hit l f m g) h =
    absurd (not_too_long s line x (block ++ y) p l (h ∙ blocked t line block y g))
one_ending verb key s t x y a b (one_line line l e d) (too_long q f) h = absurd (not_too_long t line y x q l (sym h ∙ lined s line x d))
one_ending verb key s t x y a b (one_line line l e d) (one_line other m f g) h =
    let same = (one_first_end line other x y l.one m.one (sym (lined s line x d) ∙ h ∙ lined t other y g)).0 in
    (d ∙ ap (λ u. u ++ LF ∷ []) same ∙ sym g, one_outcome a b (sym e ∙ ap (line_says verb key) same ∙ f))
one_ending verb key s t x y a b (one_line line l e d) (with_block other block hit m f n g) h =
    let same = (one_first_end line other x (block ++ y) l.one m.one (sym (lined s line x d) ∙ h ∙ blocked t other block y g)).0 in
    absurd (not_announced a hit (sym e ∙ ap (line_says verb key) same ∙ f))
one_ending verb key s t x y a b (with_block line block hit l e n d) (too_long q f) h =
    absurd (not_too_long t line y (block ++ x) q l (sym h ∙ blocked s line block x d))
one_ending verb key s t x y a b (with_block line block hit l e n d) (one_line other m f g) h =
    let same = (one_first_end line other (block ++ x) y l.one m.one (sym (blocked s line block x d) ∙ h ∙ lined t other y g)).0 in
    absurd (not_announced b hit (sym f ∙ ap (line_says verb key) (sym same) ∙ e))
one_ending verb key s t x y a b (with_block line block hit l e n d) (with_block other next hit' m f o g) h =
    let both = one_first_end line other (block ++ x) (next ++ y) l.one m.one
    (sym (blocked s line block x d) ∙ h ∙ blocked t other next y g) in
    let same : hit ≡ hit' = one_hit hit hit' (line_says verb key line) (line_says verb key other) e f (ap (line_says verb key) both.0) in
    let ends : BlockEnds hit next b = subst (λ u. BlockEnds u next b) (sym same) o in
    let blocks = one_block hit block next x y a b n ends both.1 in
    (d ∙ ap₂ (λ u v. u ++ LF ∷ v) both.0 blocks.0 ∙ sym g, blocks.1)

pub one_reply : OneReply
one_reply verb key s t x y a b = one_ending verb key s t x y a b

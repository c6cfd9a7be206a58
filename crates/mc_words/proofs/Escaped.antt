-- The bytes that a text stands for, from its first byte on.
use Rattle.std.proofs.Common.{◌≡◌, ℕ, ◌<◌, ◌==◌, Bool, cond, List, [], ◌∷◌, ◌++◌, length}
use Rattle.std.proofs.Common.{Option, Some, None, Result, Ok, Err, refl, sym, ap, ◌∙◌, subst, arith}
use Rattle.std.proofs.lemmas.List.{append_assoc}
use Rattle.std.specs.{Result.IfOk, Option.IfSome}
use Rattle.mc_words.specs.Reading.{Fails, first_byte_in, bytes_in, in_front, hex_before, if_hex}
use Rattle.mc_words.specs.{declared.words_fault.WordsKind.WordsKind, Words.is_plain, Words.hex_value}
use Rattle.mc_words.specs.declared.words_fault.WordsKind.TheVariants as kind

-- bytes before those that are read, if they are
abbrev pub onto : List ℕ → Result (List ℕ) WordsKind → Result (List ℕ) WordsKind
onto front (Ok bytes) = Ok (front ++ bytes)
onto front (Err e) = Err e

-- the bytes of a text, from what its first byte was read as
abbrev pub read_on : Result (Option (ℕ × List ℕ)) WordsKind → Result (List ℕ) WordsKind
read_on (Err e) = Err e
read_on (Ok None) = Ok []
read_on (Ok (Some p)) = in_front p.0 (bytes_in p.1)

read_on-either : (percent plain : Bool) (high low : Option ℕ) (a : ℕ) (xs ys : List ℕ)
    → cond percent (hex_before high low (bytes_in xs)) (cond plain (in_front a (bytes_in ys)) (Err kind.Form))
    ≡ read_on (cond percent (if_hex high low xs) (cond plain (Ok (Some (a, ys))) (Err kind.Form)))
read_on-either percent plain high low a xs ys = grind arith

-- a text is read byte by byte
pub bytes_in-first : (text : List ℕ) → bytes_in text ≡ read_on (first_byte_in text)
bytes_in-first [] = refl
bytes_in-first (a ∷ []) = grind arith
bytes_in-first (a ∷ b ∷ []) = grind arith
bytes_in-first (a ∷ b ∷ c ∷ xs) = read_on-either (a == 37) (is_plain a) (hex_value b) (hex_value c) a xs (b ∷ c ∷ xs)

onto-in_front : (front : List ℕ) (byte : ℕ) (read : Result (List ℕ) WordsKind) → onto (front ++ (byte ∷ [])) read ≡ onto front (in_front byte read)
onto-in_front front byte (Ok bytes) = ap Ok (append_assoc front (byte ∷ []) bytes)
onto-in_front front byte (Err e) = refl

-- a step of the reader
pub onto-byte : (front rest after : List ℕ) (byte : ℕ) (all : Result (List ℕ) WordsKind) → onto front (bytes_in rest) ≡ all
    → first_byte_in rest ≡ Ok (Some (byte, after)) → onto (front ++ (byte ∷ [])) (bytes_in after) ≡ all
onto-byte front rest after byte all h e = onto-in_front front byte (bytes_in after) ∙ ap (onto front) (sym (bytes_in-first rest ∙ ap read_on e)) ∙ h

-- what follows is shorter than a bound
abbrev IsShorter : ℕ → Result (Option (ℕ × List ℕ)) WordsKind → Type 0
IsShorter n r = IfOk r (λ o. IfSome o (λ p. length p.1 < n))

shorter-either : (n : ℕ) (percent plain : Bool) (high low : Option ℕ) (a : ℕ) (xs ys : List ℕ) → length xs < n → length ys < n
    → IsShorter n (cond percent (if_hex high low xs) (cond plain (Ok (Some (a, ys))) (Err kind.Form)))
shorter-either n percent plain high low a xs ys h k = grind arith

first_byte_in-shorter : (text : List ℕ) → IsShorter (length text) (first_byte_in text)
first_byte_in-shorter [] = tt
first_byte_in-shorter (a ∷ []) = grind arith
first_byte_in-shorter (a ∷ b ∷ []) = grind arith
first_byte_in-shorter (a ∷ b ∷ c ∷ xs) = shorter-either _ (a == 37) (is_plain a) (hex_value b) (hex_value c) a xs (b ∷ c ∷ xs) (omega arith) (omega arith)

-- a byte takes some of the text
pub shorter-byte : (rest after : List ℕ) (byte : ℕ) → first_byte_in rest ≡ Ok (Some (byte, after)) → length after < length rest
shorter-byte rest after byte e = subst (IsShorter (length rest)) e (first_byte_in-shorter rest)

onto-fault : (front rest : List ℕ) (all : Result (List ℕ) WordsKind) (f : WordsKind) → onto front (bytes_in rest) ≡ all
    → first_byte_in rest ≡ Err f → all ≡ Err f
onto-fault front rest all f h e = sym h ∙ ap (onto front) (bytes_in-first rest ∙ ap read_on e)

-- a byte's fault is that of the text
pub onto-fails : (front rest : List ℕ) (all : Result (List ℕ) WordsKind) (f : WordsKind) → onto front (bytes_in rest) ≡ all
    → Fails f (first_byte_in rest) → Fails f all
onto-fails front rest all kind.OutOfMemory h e = tt
onto-fails front rest all kind.Form h e = onto-fault front rest all kind.Form h e
onto-fails front rest all kind.Number h e = onto-fault front rest all kind.Number h e

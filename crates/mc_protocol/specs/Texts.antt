-- The texts of requests and replies (protocol.txt). The tester sends the time of expiry 0, one space between words, and
-- decimals without leading zeros.
use Rattle.std.specs.Prelude.{ℕ, Option, Some, None, List, [], ◌∷◌, ◌++◌, length, codes, decimal}
use Rattle.std.specs.List.{concat}
use Rattle.mc_protocol.specs.{Fields.fields_of, Words.verb_word}
use Rattle.mc_protocol.specs.declared.{request.Fields.Fields, request.Request.Request, reply.Reply.Reply}
use Rattle.mc_protocol.specs.declared.request.Fields.TheVariants as fields
use Rattle.mc_protocol.specs.declared.reply.Reply.TheVariants as reply

-- what ends a line
abbrev pub line_end : List ℕ
line_end = codes "\r\n"

-- a data block: its bytes, which the line announced, and the end of a line
abbrev pub block : List ℕ → List (List ℕ)
block body = body ∷ line_end ∷ []

-- what stands after the key, piece by piece
abbrev pub after_key : Fields → Request → List (List ℕ)
after_key fields.KeyAlone r = line_end ∷ []
after_key fields.Expiry r = codes " 0" ∷ line_end ∷ []
after_key fields.Item r =
    codes " " ∷ decimal r.flags ∷ codes " 0 " ∷ decimal (length r.body) ∷ line_end ∷ block r.body
after_key fields.Swap r =
    codes " " ∷ decimal r.flags ∷ codes " 0 " ∷ decimal (length r.body) ∷ codes " " ∷ decimal r.number ∷ line_end ∷ block r.body
after_key fields.Amount r = codes " " ∷ decimal r.number ∷ line_end ∷ []

-- a command's word, the key, and these fields after the key
abbrev pub text_as : List ℕ → Fields → Request → List ℕ
text_as word fields r = concat (word ∷ codes " " ∷ r.key ∷ after_key fields r)

-- a request: its verb, its key, and what the verb has after the key
abbrev pub request_text : Request → List ℕ
request_text r = text_as (verb_word r.verb) (fields_of r.verb) r

-- the cas unique on the line of a VALUE block, where it is shown
abbrev pub shown : Option ℕ → List (List ℕ)
shown None = []
shown (Some n) = codes " " ∷ decimal n ∷ []

-- a VALUE block
abbrev pub value_pieces : List ℕ → ℕ → List ℕ → Option ℕ → List (List ℕ)
value_pieces key flags body cas =
    (codes "VALUE " ∷ key ∷ codes " " ∷ decimal flags ∷ codes " " ∷ decimal (length body) ∷ shown cas) ++ (line_end ∷ block body)

abbrev pub value_text : List ℕ → ℕ → List ℕ → Option ℕ → List ℕ
value_text key flags body cas = concat (value_pieces key flags body cas)

-- a reply to a request of this key
abbrev pub reply_text : List ℕ → Reply → List ℕ
reply_text key reply.Stored = codes "STORED\r\n"
reply_text key reply.NotStored = codes "NOT_STORED\r\n"
reply_text key reply.Exists = codes "EXISTS\r\n"
reply_text key reply.NotFound = codes "NOT_FOUND\r\n"
reply_text key (reply.Hit flags body cas) = value_text key flags body cas ++ codes "END\r\n"
reply_text key reply.Miss = codes "END\r\n"
reply_text key reply.Deleted = codes "DELETED\r\n"
reply_text key reply.Touched = codes "TOUCHED\r\n"
reply_text key (reply.Number n) = decimal n ++ line_end
reply_text key reply.NotNumber = codes "CLIENT_ERROR cannot increment or decrement non-numeric value\r\n"

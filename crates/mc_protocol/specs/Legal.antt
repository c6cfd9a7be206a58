-- Which replies a request may have (protocol.txt).
use Rattle.std.specs.Prelude.{Bool, true, false, not, ◌&&◌, is_some, length, nat_le}
use Rattle.mc_protocol.specs.declared.{request.Verb.Verb, request.Request.Request, reply.Class.Class, reply.Reply.Reply}
use Rattle.mc_protocol.specs.declared.limits.TheConstants.{REPLY_BODY_LIMIT}
use Rattle.mc_protocol.specs.declared.request.Verb.TheVariants.{Set, Add, Replace, Append, Prepend, Cas}
use Rattle.mc_protocol.specs.declared.request.Verb.TheVariants.{Get, Gets, Incr, Decr, Delete, Touch}
use Rattle.mc_protocol.specs.declared.reply.Class.TheVariants as class
use Rattle.mc_protocol.specs.declared.reply.Reply.TheVariants as reply

-- a reply without what it carries
abbrev pub class_of : Reply → Class
class_of reply.Stored = class.Stored
class_of reply.NotStored = class.NotStored
class_of reply.Exists = class.Exists
class_of reply.NotFound = class.NotFound
class_of (reply.Hit flags body cas) = class.Hit
class_of reply.Miss = class.Miss
class_of reply.Deleted = class.Deleted
class_of reply.Touched = class.Touched
class_of (reply.Number n) = class.Number
class_of reply.NotNumber = class.NotNumber

-- what a storage verb may be answered
abbrev pub is_storage_reply : Class → Bool
is_storage_reply class.Stored = true
is_storage_reply class.NotStored = true
is_storage_reply class.Exists = true
is_storage_reply class.NotFound = true
is_storage_reply _ = false

-- what a retrieval may be answered
abbrev pub is_retrieval_reply : Class → Bool
is_retrieval_reply class.Hit = true
is_retrieval_reply class.Miss = true
is_retrieval_reply _ = false

-- what a deletion may be answered
abbrev pub is_deletion_reply : Class → Bool
is_deletion_reply class.Deleted = true
is_deletion_reply class.NotFound = true
is_deletion_reply _ = false

-- what a touch may be answered
abbrev pub is_touch_reply : Class → Bool
is_touch_reply class.Touched = true
is_touch_reply class.NotFound = true
is_touch_reply _ = false

-- what an increment or a decrement may be answered
abbrev pub is_count_reply : Class → Bool
is_count_reply class.Number = true
is_count_reply class.NotFound = true
is_count_reply class.NotNumber = true
is_count_reply _ = false

-- the protocol has a reply of this class to the verb
abbrev pub is_legal : Verb → Class → Bool
is_legal Set c = is_storage_reply c
is_legal Add c = is_storage_reply c
is_legal Replace c = is_storage_reply c
is_legal Append c = is_storage_reply c
is_legal Prepend c = is_storage_reply c
is_legal Cas c = is_storage_reply c
is_legal Get c = is_retrieval_reply c
is_legal Gets c = is_retrieval_reply c
is_legal Incr c = is_count_reply c
is_legal Decr c = is_count_reply c
is_legal Delete c = is_deletion_reply c
is_legal Touch c = is_touch_reply c

-- a hit for the verb shows the item's cas number
abbrev pub shows_number : Verb → Bool
shows_number Gets = true
shows_number _ = false

-- both or neither
abbrev pub same : Bool → Bool → Bool
same true b = b
same false b = not b

-- what the reply carries is right for the verb: a hit has a cas number exactly where the verb shows it, and its body is within the limit
abbrev pub suits : Verb → Reply → Bool
suits verb (reply.Hit flags body cas) = same (is_some cas) (shows_number verb) && nat_le (length body) REPLY_BODY_LIMIT
suits verb _ = true

-- a request of this verb may have this reply
abbrev pub is_fit_for : Verb → Reply → Bool
is_fit_for verb r = is_legal verb (class_of r) && suits verb r

-- the request may have this reply
abbrev pub is_fit : Request → Reply → Bool
is_fit request r = is_fit_for request.verb r

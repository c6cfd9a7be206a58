-- Which fields a request has.
use Rattle.mc_protocol.specs.declared.{request.Verb.Verb, request.Fields.Fields}
use Rattle.mc_protocol.specs.declared.request.Verb.TheVariants.{Set, Add, Replace, Append, Prepend, Cas}
use Rattle.mc_protocol.specs.declared.request.Verb.TheVariants.{Get, Gets, Incr, Decr, Delete, Touch}
use Rattle.mc_protocol.specs.declared.request.Fields.TheVariants.{KeyAlone, Expiry, Item, Swap, Amount}

-- what a verb has after its key (protocol.txt)
abbrev pub fields_of : Verb → Fields
fields_of Set = Item
fields_of Add = Item
fields_of Replace = Item
fields_of Append = Item
fields_of Prepend = Item
fields_of Cas = Swap
fields_of Get = KeyAlone
fields_of Gets = KeyAlone
fields_of Incr = Amount
fields_of Decr = Amount
fields_of Delete = KeyAlone
fields_of Touch = Expiry

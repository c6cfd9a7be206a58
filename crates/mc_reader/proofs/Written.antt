-- The text of each reply spells it.
use Rattle.std.proofs.Common.{Some, None}
use Rattle.mc_protocol.specs.declared.reply.Reply.TheVariants as reply
use Rattle.mc_reader.specs.Laws.{WrittenIsSpelled}
use Rattle.mc_reader.proofs.WrittenLines.{stored, not_stored, exists, not_found, miss, deleted, touched, not_number, number}
use Rattle.mc_reader.proofs.WrittenHits.{hit_written, shown_hit_written}

pub written : WrittenIsSpelled
written verb key reply.Stored k w fit = stored verb key fit
written verb key reply.NotStored k w fit = not_stored verb key fit
written verb key reply.Exists k w fit = exists verb key fit
written verb key reply.NotFound k w fit = not_found verb key fit
written verb key (reply.Hit flags body None) k w fit = hit_written verb key flags body k w fit
written verb key (reply.Hit flags body (Some cas)) k w fit = shown_hit_written verb key flags body cas k w.0 w.1 fit
written verb key reply.Miss k w fit = miss verb key fit
written verb key reply.Deleted k w fit = deleted verb key fit
written verb key reply.Touched k w fit = touched verb key fit
written verb key (reply.Number n) k w fit = number verb key n w fit
written verb key reply.NotNumber k w fit = not_number verb key fit

use Rattle.std.proofs.Common.{◌≡◌, ℕ, ◌+◌, ◌≤◌, List, ◌++◌, length}
use Rattle.mc_lane.specs.Streams.{CanFail}
use Rattle.mc_reader.specs.AskReading.{HasRead}
use Rattle.mc_server.specs.Conversing.{HasReadSome, IsTalk}
use Rattle.mc_server.proofs.conversation.Conversation.put_answers.Given as goal

-- what was answered so far, whatever text was read before
abbrev pub invariant-asks : goal.invariant-asks
invariant-asks g l = record {
  can_fail : CanFail (g.S.Stream.state l.stream);
  some : HasReadSome l.self.reader;
  few : l.self.requests + length l.unread ≤ l.fn.self.requests + length l.piece;
  talk : (text : List ℕ) → HasRead l.fn.self.reader text
      → (read : List ℕ) × (k : ℕ) × HasRead l.self.reader read × (l.self.requests ≡ l.fn.self.requests + k)
      × IsTalk (text ++ l.piece) (read ++ l.unread) l.fn.self.held.items l.self.held.items (g.S.Stream.state l.fn.stream) (g.S.Stream.state l.stream) k;
}

abbrev pub decreases-asks : goal.decreases-asks
decreases-asks g l = length l.unread

-- A history cut at a place: what stands before it.
use Rattle.std.specs.Prelude.{ℕ, ◌+◌, ◌-◌, Option, Some, None, List, length, take}
use Rattle.mc_model.specs.{Notes.History, Notes.Noted, Notes.with_notes, Notes.without_notes, Sections.Sections}

-- how many requests the sections have
abbrev pub request_count : Sections → ℕ
request_count s = length s.p + length s.a + length s.b

-- the first n requests: P's, then A's, then B's
abbrev pub first_requests : ℕ → Sections → Sections
first_requests n s = record { p = take n s.p; a = take (n - length s.p) s.a; b = take (n - length s.p - length s.a) s.b }

abbrev pub count_of : Option (List Noted) → Sections → ℕ
count_of None s = request_count s
count_of (Some notes) s = length notes

-- how many places a history has: one for each note, or, where no notes are kept, one for each request
abbrev pub place_count : History → ℕ
place_count h = count_of h.notes h.sections

abbrev pub cut_of : ℕ → Option (List Noted) → Sections → History
cut_of n None s = without_notes (first_requests n s)
cut_of n (Some notes) s = with_notes (take n notes)

-- the history of its first n notes, or, where no notes are kept, of its first n requests
abbrev pub cut : ℕ → History → History
cut n h = cut_of n h.notes h.sections

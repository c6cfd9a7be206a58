-- What private contracts say of the replies that are tried at a place.
use Rattle.std.specs.Prelude.{◌≡◌, ℕ, Bool, true, not, Option, Some, None, List}
use Rattle.std.specs.List.{list_all}
use Rattle.mc_model.specs.{declared.sent.Sent.Sent, Notes.History}
pub use Rattle.mc_model.specs.History.{shows_number}
use Rattle.mc_why.specs.{Cuts.cut, Forms.IsForm, Forms.shows_nowhere, declared.form.Form.Form, declared.forms.Tried.Tried}
use Rattle.mc_why.specs.declared.forms.Tried.TheVariants as tried

-- no reply of the section shows the number
abbrev pub lacks_number : ℕ → List Sent → Bool
lacks_number number section = list_all (λ sent. not (shows_number number sent.reply)) section

-- a number, if there is one, that was not shown before the place
abbrev pub IsNewAt : History → ℕ → Option ℕ → Type 0
IsNewAt h place None = Unit {0}
IsNewAt h place (Some number) = shows_nowhere number (cut place h) ≡ true

-- what is called explained would be
abbrev pub IsTriedAt : History → ℕ → Tried → Type 0
IsTriedAt h place (tried.Explained form) = IsForm h place form
IsTriedAt h place tried.Unexplained = Unit {0}
IsTriedAt h place tried.Undecided = Unit {0}

-- it is this form that is called explained, if the answer is yes
abbrev pub IsTriedBy : Option Bool → Form → Tried → Type 0
IsTriedBy answer form (tried.Explained other) = (answer ≡ Some true) × (other ≡ form)
IsTriedBy answer form tried.Unexplained = Unit {0}
IsTriedBy answer form tried.Undecided = Unit {0}

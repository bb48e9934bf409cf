-- The first words of lines.
use Rattle.std.specs.Prelude.{ℕ, List, [], ◌∷◌, Option, codes}
use Rattle.text_words.specs.Steps.{fixed_of}
use Rattle.scenario_text.specs.declared.form.Form.{Form}
use Rattle.scenario_text.specs.declared.form.Form.TheVariants.{Overlay, Kind, Peer, Client, Clock, Deliver, Lose, Drain, Store, Fetch}

-- the first word of each form
unfoldable pub form_text : Form → List ℕ
form_text Overlay = codes "overlay"
form_text Kind = codes "kind"
form_text Peer = codes "peer"
form_text Client = codes "client"
form_text Clock = codes "clock"
form_text Deliver = codes "deliver"
form_text Lose = codes "lose"
form_text Drain = codes "drain"
form_text Store = codes "store"
form_text Fetch = codes "fetch"

-- all forms
abbrev pub forms : List Form
forms =
    Overlay ∷ Kind ∷ Peer ∷ Client ∷ Clock ∷ Deliver ∷ Lose ∷ Drain ∷ Store ∷ Fetch ∷ []

-- the form whose first word this is
unfoldable pub form_of : List ℕ → Option Form
form_of word = fixed_of form_text forms word

-- What Fetches are given, and what is held, where all that is decided makes sense.
use Rattle.std.proofs.Common.{◌≡◌, ℕ, ◌++◌, List, ◌∷◌, sym, subst}
use Rattle.data_models.specs.declared.config.DataModel.{DataModel}
use Rattle.storage_model.specs.Decisions.{Decision}
use Rattle.storage_model.specs.Laws.{AreSound}
use Rattle.storage_model.proofs.OnceLaw.{sound_front}
use Rattle.storage_model.proofs.Lasts.{last_given}
use Rattle.storage_model.proofs.Permitted.{permitted_all}
use Rattle.overlay_laws.specs.Gives.{GivesLastPuts, GivesAtDecisions, HoldsPermitted, InTime}
use Rattle.overlay_laws.proofs.Clocks.{before_next}

front : (models : ℕ → DataModel) (ds before after : List Decision) → AreSound models ds → before ++ after ≡ ds → AreSound models before
front models ds before after sound same = (sound_front models before after (subst (λ (all : List Decision). AreSound models all) (sym same) sound)).0

pub gives_last_puts : (models : ℕ → DataModel) (ds : List Decision) → AreSound models ds → GivesLastPuts ds
gives_last_puts models ds sound = λ before after same now times resource kind key. last_given models before now resource kind key (front models ds before after sound same) times

pub gives_at_decisions : (models : ℕ → DataModel) (ds : List Decision) → AreSound models ds → InTime ds → GivesAtDecisions ds
gives_at_decisions models ds sound in_time = λ before after d same.
    gives_last_puts models ds sound before (d ∷ after) same d.time (before_next before after d (subst (λ (all : List Decision). InTime all) (sym same) in_time))

pub holds_permitted : (models : ℕ → DataModel) (ds : List Decision) → AreSound models ds → HoldsPermitted ds
holds_permitted models ds sound = λ before after same resource kind key held is. permitted_all models before resource kind key held (front models ds before after sound same) is

use Rattle.run_model.specs.Runs.{decisions_in, happenings}
use Rattle.run_model.specs.Worlds.{first_world}
use Rattle.overlay_laws.proofs.Gives.{gives_last_puts, gives_at_decisions}
use Rattle.overlay_laws.proofs.Runs.{run_sound, run_in_time}
use Rattle.overlay_laws.proofs.laws.fetches_give_the_last_put_in_every_run.Goals as goal

pub returns : goal.returns
returns c = record {
  gives = λ words config names events apart is bytes.
      let sound = run_sound words config names events apart is bytes in
      gives_last_puts sound.0 (decisions_in config (happenings words (first_world config names) events)) sound.1;
  at_decisions = λ words config names events apart is bytes.
      let sound = run_sound words config names events apart is bytes in
      gives_at_decisions sound.0 (decisions_in config (happenings words (first_world config names) events)) sound.1 (run_in_time words config names events);
}

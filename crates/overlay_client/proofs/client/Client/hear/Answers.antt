use Rattle.overlay_client.proofs.Hears.{heard_ok, heard_out}
use Rattle.overlay_client.proofs.client.Client.hear.Goals as goal

pub returns-clause-ok : goal.returns-clause-ok
returns-clause-ok g c =
    heard_ok c.react.result _ _ c.args.now c.args.from c.args.sequence c.args.message.now
    c.args.self.now _ (c.in_ok-reaction.ensures.value c.args.now) c.react.ensures.ok

pub returns-clause-outputs : goal.returns-clause-outputs
returns-clause-outputs g c =
    heard_out c.react.result _ c.args.now c.args.from c.args.sequence c.args.message.now
    c.args.self.now _ (c.in_ok-reaction.ensures.value c.args.now) c.react.ensures.outputs

use Rattle.std.proofs.Common.{Some, length, fold, ap, ◌∙◌, arith}
use Rattle.std.specs.Ordering.{nat_cmp}
use Rattle.std.specs.FinMap.{len, len-empty, remove}
use Rattle.transaction_table.specs.declared.outbox.Outbox.{Outbox}
use Rattle.transaction_table.specs.Tables.{Outboxes, renewed}
use Rattle.node_model.specs.declared.limits.TheConstants.{MAX_SENDS}
use Rattle.node_model.specs.Nodes.{Node}
use Rattle.node_model.specs.Clocks.{ids_over, node_clocked}
use Rattle.overlay_client.proofs.Clocks.{are_small, clocked_sound}
use Rattle.overlay_client.proofs.client.Client.clocked.Goals as goal

pub resend-requires-clause-few : goal.resend-requires-clause-few
resend-requires-clause-few c =
    omega (
      arith,
      ap length c.as_slice-3.ensures,
      c.in_ok-due.ensures.few,
      ap (λ (m : Outboxes). len m) c.self.invariant.none_queued,
      len-empty nat_cmp Outbox,
      c.self.invariant.few,
    )

pub resend-requires-clause-small : goal.resend-requires-clause-small
resend-requires-clause-small c = are_small c.self.inside.node c.self.inside.table c.self.inside.questions c.self.invariant

pub invariant_of-self-2 : goal.invariant_of-self-2
unfolding node_clocked
invariant_of-self-2 c =
    let i = c.self.inside in
    clocked_sound c.args.now (Some MAX_SENDS) i.node c.resend.new.self i.table c.renew.new.self i.questions c.drop_questions.new.questions c.self.invariant
    (ap (λ (n : Node). n.about) c.in_ok-frames.ensures.ok) (ap (λ (n : Node). n.number) c.in_ok-frames.ensures.ok) (ap (λ (n : Node). n.ids) c.in_ok-frames.ensures.ok)
    (c.renew.ensures ∙ ap (fold (renewed c.args.now (Some MAX_SENDS)) i.table) (c.as_slice-4.ensures ∙ c.in_ok-due.ensures.due))
    (c.drop_questions.ensures ∙ ap (fold remove i.questions) (c.as_slice-5.ensures ∙ c.in_ok-ended.ensures)
    ∙ ap (λ ss. fold remove i.questions (ids_over (Some MAX_SENDS) i.table ss)) (c.as_slice.ensures ∙ c.in_ok-due.ensures.due))

use Rattle.plan_scope.proofs.laws.loaded_manifests_are_sound.Goals as goal

pub returns : goal.returns
returns g c source before now path statements m loaded means = c.manifests_are_sound.ensures statements m (c.trees_are_whole.ensures source before now path statements loaded) means

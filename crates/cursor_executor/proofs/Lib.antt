mod CourseFacts
mod CursorFacts
mod RunFacts
mod StepFacts
